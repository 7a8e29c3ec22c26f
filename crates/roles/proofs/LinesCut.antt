-- Lines that are accepted, cut before one of them; and lines behind others.
use Rattle.std.proofs.Common.{◌≡◌, ℕ, suc, ◌+◌, Bool, true, false, cond, ◌||◌, List, [], ◌∷◌, ◌++◌, map, length, Ok, Err, Result, sym, refl, ap, ◌∙◌, append_assoc, append-nil, arith, length-append}
use Rattle.std.specs.List.{list_any}
use Rattle.std.proofs.lemmas.List.{length-map}
use Rattle.model.specs.Lists.{Every}
use Rattle.syntax.specs.declared.spec.Label.{Label}
use Rattle.syntax.specs.Places.{label_place}
use Rattle.syntax.specs.Specs.{Lined}
use Rattle.terms.specs.Declaring.{bind}
use Rattle.terms.specs.declared.limits.Limits.{Limits}
use Rattle.terms.proofs.Steps.{steps}
use Rattle.roles.specs.declared.line_fault.LineFault.{LineFault}
use Rattle.roles.specs.declared.line_fault.LineFault.TheVariants.{Repeated}
use Rattle.roles.specs.Labels.{unused, equal_labels}
use Rattle.roles.specs.Stages.{Stage, line, lines}

abbrev pub labels : List Lined → List Label
labels xs = map (λ (x : Lined). x.label) xs

-- a label is unused exactly if no line before has it
module _ (text : List ℕ) (b : Label) where
  abbrev Differs : Lined → Type 0
  Differs m = equal_labels text m.label b ≡ false

  differ : (xs : List Lined) → list_any (λ a. equal_labels text a b) (labels xs) ≡ false → Every Differs xs
  differ [] e = tt
  differ (x ∷ xs) e = go (equal_labels text x.label b) refl e (differ xs)
    where
      go : (c : Bool) → equal_labels text x.label b ≡ c → (c || list_any (λ a. equal_labels text a b) (labels xs)) ≡ false
          → (list_any (λ a. equal_labels text a b) (labels xs) ≡ false → Every Differs xs) → Every Differs (x ∷ xs)
      go true q f k = absurd (cc)
      go false q f k = (q, k f)

  none_equal : (xs : List Lined) → Every Differs xs → list_any (λ a. equal_labels text a b) (labels xs) ≡ false
  none_equal [] h = refl
  none_equal (x ∷ xs) h = ap (λ c. c || list_any (λ a. equal_labels text a b) (labels xs)) h.0 ∙ none_equal xs h.1

  pub was_unused : (xs : List Lined) → unused text (labels xs) b ≡ Ok tt → Every Differs xs
  was_unused xs e = differ xs (go (list_any (λ a. equal_labels text a b) (labels xs)) e)
    where
      go : (c : Bool) → cond {A = Result (Unit {0}) LineFault} c (Err (Repeated (label_place b))) (Ok tt) ≡ Ok tt → c ≡ false
      go true e = absurd (cc)
      go false e = refl

  pub is_unused : (xs : List Lined) → Every Differs xs → unused text (labels xs) b ≡ Ok tt
  is_unused xs h = ap (λ c. cond c (Err (Repeated (label_place b))) (Ok tt)) (none_equal xs h)

module _ (limits : Limits) (text : List ℕ) where
  -- a line of some that are accepted is accepted where it stands
  pub record Cut (earlier : List Label) (before : List Lined) (l : Lined) (G : Stage) : Type 0 where
    pub stage : Stage
    pub accepted : lines limits text earlier before G ≡ Ok stage
    pub number : ℕ
    pub counted : number ≡ suc (length earlier + length before)
    pub then : Stage
    pub passes : line limits text number l stage ≡ Ok then

  pub cut : (before after : List Lined) (l : Lined) (earlier : List Label) (G H : Stage) → lines limits text earlier (before ++ (l ∷ after)) G ≡ Ok H → Cut earlier before l G
  cut [] after l earlier G H e =
      let u = steps (unused text earlier l.label) (λ _. bind (line limits text (suc (length earlier)) l G) (lines limits text (earlier ++ (l.label ∷ [])) after)) H e in
      let v = steps (line limits text (suc (length earlier)) l G) (lines limits text (earlier ++ (l.label ∷ [])) after) H u.second in
      record { stage = G; accepted = refl; number = suc (length earlier); counted = omega arith; then = v.mid; passes = v.first }
  cut (x ∷ xs) after l earlier G H e =
      let u = steps (unused text earlier x.label) (λ _. bind (line limits text (suc (length earlier)) x G) (lines limits text (earlier ++ (x.label ∷ [])) (xs ++ (l ∷ after)))) H e in
      let v = steps (line limits text (suc (length earlier)) x G) (lines limits text (earlier ++ (x.label ∷ [])) (xs ++ (l ∷ after))) H u.second in
      let c = cut xs after l (earlier ++ (x.label ∷ [])) v.mid H v.second in
      record {
        stage = c.stage;
        accepted =
            ap (λ o. bind o (λ _. bind (line limits text (suc (length earlier)) x G) (lines limits text (earlier ++ (x.label ∷ [])) xs))) u.first
            ∙ ap (λ o. bind o (lines limits text (earlier ++ (x.label ∷ [])) xs)) v.first ∙ c.accepted;
        number = c.number;
        counted = (let n = c.counted in let m = length-append earlier (x.label ∷ []) in omega arith);
        then = c.then;
        passes = c.passes;
      }

  -- lines behind accepted ones go on from there
  lines_behind : (before rest : List Lined) (earlier : List Label) (G H : Stage) → lines limits text earlier before G ≡ Ok H
      → lines limits text earlier (before ++ rest) G ≡ lines limits text (earlier ++ labels before) rest H
  lines_behind [] rest earlier G H e = let p : G ≡ H = cc in ap (λ bs. lines limits text bs rest G) (sym (append-nil earlier)) ∙ ap (lines limits text (earlier ++ []) rest) p
  lines_behind (x ∷ xs) rest earlier G H e =
      let u = steps (unused text earlier x.label) (λ _. bind (line limits text (suc (length earlier)) x G) (lines limits text (earlier ++ (x.label ∷ [])) xs)) H e in
      let v = steps (line limits text (suc (length earlier)) x G) (lines limits text (earlier ++ (x.label ∷ [])) xs) H u.second in
      ap (λ o. bind o (λ _. bind (line limits text (suc (length earlier)) x G) (lines limits text (earlier ++ (x.label ∷ [])) (xs ++ rest)))) u.first
      ∙ ap (λ o. bind o (lines limits text (earlier ++ (x.label ∷ [])) (xs ++ rest))) v.first ∙ lines_behind xs rest (earlier ++ (x.label ∷ [])) v.mid H v.second
      ∙ ap (λ bs. lines limits text bs rest H) (append_assoc earlier (x.label ∷ []) (labels xs))

  -- a line that is refused behind accepted ones refuses all
  pub line_refuses : (before after : List Lined) (l : Lined) (G H : Stage) (f : LineFault) → lines limits text [] before G ≡ Ok H → unused text (labels before) l.label ≡ Ok tt
      → line limits text (suc (length before)) l H ≡ Err f → lines limits text [] (before ++ (l ∷ after)) G ≡ Err f
  line_refuses before after l G H f a u e =
      lines_behind before (l ∷ after) [] G H a
      ∙ ap (λ o. bind o (λ _. bind (line limits text (suc (length (labels before))) l H) (lines limits text (labels before ++ (l.label ∷ [])) after))) u
      ∙ ap (λ n. bind (line limits text (suc n) l H) (lines limits text (labels before ++ (l.label ∷ [])) after)) (length-map before (λ (x : Lined). x.label))
      ∙ ap (λ o. bind o (lines limits text (labels before ++ (l.label ∷ [])) after)) e
