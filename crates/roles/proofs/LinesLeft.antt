-- The lines, one after the other: what those so far come to, and what is left of the others.
use Rattle.std.proofs.Common.{◌≡◌, ℕ, suc, ◌+◌, ◌<◌, cond, ◌||◌, List, [], ◌∷◌, ◌++◌, map, length, get_or, take, drop, Ok, Err, Result, sym, refl, ap, ◌∙◌, subst, arith}
use mathlib.Core.Path.{subst⁻¹}
use Rattle.std.specs.List.{list_any}
use Rattle.std.proofs.lemmas.List.{map_more, length-map, length-take-le, get_or_default}
use Rattle.syntax.specs.declared.spec.Label.{Label}
use Rattle.syntax.specs.declared.spec.Line.{Line}
use Rattle.syntax.specs.declared.spec.Spec.{Spec}
use Rattle.syntax.specs.Places.{label_place}
use Rattle.syntax.specs.Specs.{Lined}
use Rattle.syntax.specs.Views.{line_of}
use Rattle.terms.specs.declared.limits.Limits.{Limits}
use Rattle.terms.specs.Declaring.{bind}
use Rattle.terms.proofs.Adding.{left_at}
use Rattle.roles.specs.declared.line_fault.LineFault.{LineFault}
use Rattle.roles.specs.declared.line_fault.LineFault.TheVariants.{Repeated}
use Rattle.roles.specs.declared.translation.Translation.{Translation}
use Rattle.roles.specs.Labels.{equal_labels, unused, new_label}
use Rattle.roles.specs.Stages.{Stage, line, lines}
use Rattle.roles.specs.Staging.{stage_of, Refused, Comes}
use Rattle.roles.proofs.Messaging.{refused_through, refused_path}
use Rattle.roles.proofs.OneLine.{refused_is}

abbrev pub labels : List Line → List Label
labels ls = map (λ (l : Line). l.label) ls

-- the lines before this one
module _ (ls : List Line) (i : ℕ) (x : Line) (h : i < length ls) (e : x ≡ get_or ls i x) where
  labels_to : labels (take (i + 1) ls) ≡ labels (take i ls) ++ (x.label ∷ [])
  labels_to = map_more (λ (l : Line). l.label) ls i x h ∙ ap (λ (y : Line). labels (take i ls) ++ (y.label ∷ [])) (sym e)

  as_many : suc (length (labels (take i ls))) ≡ i + 1
  as_many = let n = length-map (take i ls) (λ (l : Line). l.label) in let m = length-take-le i ls (omega arith) in omega arith

module _ (limits : Limits) (text : List ℕ) where
  -- a label is compared with those of the earlier lines
  labels_of : (ls : List Line) (b : Label) → unused text (labels ls) b ≡ new_label text ls b
  labels_of ls b = ap (λ x. cond x (Err (Repeated (label_place b))) (Ok tt)) (go ls)
    where
      go : (ls : List Line) → list_any (λ a. equal_labels text a b) (labels ls) ≡ list_any (λ (l : Line). equal_labels text l.label b) ls
      go [] = refl
      go (l ∷ ls) = ap (λ x. equal_labels text l.label b || x) (go ls)

  -- the lines so far come to this translation, and these are left
  abbrev pub Left : Result Stage LineFault → Translation → List Label → List Lined → Type 0
  Left all T earlier xs = all ≡ lines limits text earlier xs (stage_of T)

  abbrev pub LeftLines : List Lined → Translation → Translation → List Label → List Lined → Type 0
  LeftLines all old T earlier xs = Left (lines limits text [] all (stage_of old)) T earlier xs

  module _ (spec : Spec) (all : Result Stage LineFault) (T : Translation) (ls : List Line) (i : ℕ) (other : Line) (h : i < length ls) (g : Left all T (labels (take i ls)) (map (line_of spec) (drop i ls))) where
    abbrev x : Line
    x = get_or ls i other

    e : x ≡ get_or ls i x
    e = get_or_default ls i other x h

    abbrev others : Stage → Result Stage LineFault
    others = lines limits text (labels (take i ls) ++ (x.label ∷ [])) (map (line_of spec) (drop (i + 1) ls))

    next : Left all T (labels (take i ls)) (line_of spec x ∷ map (line_of spec) (drop (i + 1) ls))
    next = subst (Left all T (labels (take i ls))) (left_at (line_of spec) ls i x h e) g

    abbrev this : ℕ → Result Stage LineFault
    this number = line limits text number (line_of spec x) (stage_of T)

    from_label : all ≡ bind (new_label text (take i ls) x.label) (λ _. bind (this (i + 1)) others)
    from_label =
        next ∙ ap (λ o. bind o (λ _. bind (this (suc (length (labels (take i ls))))) others)) (labels_of (take i ls) x.label)
        ∙ ap (λ n. bind (new_label text (take i ls) x.label) (λ _. bind (this n) others)) (as_many ls i x h e)

    pub label_refused : (f : LineFault) → new_label text (take i ls) x.label ≡ Err f → Refused all f
    label_refused f r = refused_is f (from_label ∙ ap (λ o. bind o (λ _. bind (this (i + 1)) others)) r)

    module _ (r : new_label text (take i ls) x.label ≡ Ok tt) (T' : Translation) where
      from_line : all ≡ bind (this (i + 1)) others
      from_line = from_label ∙ ap (λ o. bind o (λ _. bind (this (i + 1)) others)) r

      abbrev Step : Result (Unit {0}) LineFault → Type 0
      Step y = Comes (this (i + 1)) T' y

      pub line_refused : (f : LineFault) → Step (Err f) → Refused all f
      line_refused f k = refused_path f from_line (refused_through (this (i + 1)) others f k)

      pub line_done : Step (Ok tt) → Left all T' (labels (take (i + 1) ls)) (map (line_of spec) (drop (i + 1) ls))
      line_done k = subst⁻¹ (λ bs. Left all T' bs (map (line_of spec) (drop (i + 1) ls))) (labels_to ls i x h e) (from_line ∙ ap (λ o. bind o others) k)
