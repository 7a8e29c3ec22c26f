-- What is answered in print: the rows of the code are the actions of the definition, and the first bytes of a text decide.
use Rattle.std.proofs.Common.{◌≡◌, ℕ, Bool, true, false, cond, List, [], ◌∷◌, ◌++◌, map, length, take, codes, flat_map, string_bytes, None, Ok, Err, Result, refl, sym, ap, ap₂, ◌∙◌, subst, arith, nat_le, nat_lt, vec_items}
use Rattle.std.proofs.lemmas.List.{length-take-le, take_all, take-take}
use Rattle.std.proofs.lemmas.Bool.{leb-true, leb-false}
use Rattle.text.specs.Trees.{Tree}
use Rattle.text.specs.Reading.{read, reading, too_long}
use Rattle.text.specs.declared.fault.TextFault.{TextFault}
use Rattle.text.specs.declared.fault.TextFault.TheVariants as texts
use Rattle.program.specs.declared.action.Row.{Row}
use Rattle.program.specs.Printed.{written, row_text, step_text}
use Rattle.terms.specs.declared.declarations.Function.{Function}
use Rattle.terms.specs.declared.declarations.ValueType.{ValueType}
use Rattle.terms.specs.declared.limits.Limits.{Limits}
use Rattle.terms.specs.declared.table.TermTable.{TermTable}
use Rattle.terms.specs.Meanings.{functions_of, types_of, signature_in}
use Rattle.terms.specs.Scope.{Signature, bytes}
use Rattle.terms.specs.Declaring.{bind, declared}
use Rattle.syntax.specs.Shape.{shape}
use Rattle.roles.specs.declared.role.Role.{Role}
use Rattle.roles.specs.declared.translation.Translation.{Translation}
use Rattle.roles.specs.declared.translation_fault.TranslationFault.{TranslationFault}
use Rattle.roles.specs.declared.translation_fault.TranslationFault.TheVariants.{Text, Shape, Declarations, Lines}
use Rattle.roles.specs.declared.answer.Answer.{Answer}
use Rattle.roles.specs.Answers.{program_text, programs_text, refusal_of, answer_of, answer}
use Rattle.roles.specs.Answered.{Answered, Decided}
use Rattle.roles.specs.Listing.{function_names, role_text, listing}
use Rattle.roles.specs.Players.{lined, player_of}
use Rattle.roles.specs.Stages.{Stage, refused_by, lines}
use Rattle.roles.specs.Staging.{stage_of}
use Rattle.roles.specs.Translating.{translation}

module _ (text : List ℕ) where
  names_are : (ws : List ValueType) (fs : List Function) → function_names text fs ≡ map (λ (f : Signature). written (bytes text f.name)) (map (signature_in ws) fs)
  names_are ws [] = refl
  names_are ws (f ∷ fs) = ap (λ ns. written (bytes text f.name) ∷ ns) (names_are ws fs)

  rows_are : (names : List (List ℕ)) (rs : List Row) → flat_map (row_text names) rs ≡ flat_map (step_text names) (map lined rs)
  rows_are names [] = refl
  rows_are names (r ∷ rs) = ap (λ xs. row_text names r ++ xs) (rows_are names rs)

  role_is : (names : List (List ℕ)) (t : TermTable) (r : Role) → role_text text names r ≡ program_text text names (player_of t r)
  role_is names t r = ap (λ xs. codes "role " ++ (written (bytes text r.part) ++ (codes "\n" ++ xs))) (rows_are names (vec_items r.rows))

  roles_are : (names : List (List ℕ)) (t : TermTable) (rs : List Role) → flat_map (role_text text names) rs ≡ flat_map (program_text text names) (map (player_of t) rs)
  roles_are names t [] = refl
  roles_are names t (r ∷ rs) = ap₂ (λ xs ys. xs ++ ys) (role_is names t r) (roles_are names t rs)

  listing_is : (T : Translation) → listing text T ≡ programs_text text (stage_of T)
  listing_is T =
      roles_are (function_names text (functions_of T.declarations)) T.declarations.terms (vec_items T.roles)
      ∙ ap (λ names. flat_map (program_text text names) (map (player_of T.declarations.terms) (vec_items T.roles))) (names_are (types_of T.declarations) (functions_of T.declarations))

module _ (limits : Limits) (text : List ℕ) where
  pub programs_answered : (T : Translation) (a : Answer) → translation limits text ≡ Ok (stage_of T) → string_bytes a.text ≡ listing text T → a.refusal ≡ None → Answered limits text a
  programs_answered T a s e n =
      record {
        bytes = e ∙ listing_is text T ∙ sym (ap (answer_of text) s);
        refusal = n ∙ sym (ap refusal_of s);
      }

-- what follows a text that is too long does not look at it
module _ (k k' : Tree → Result Stage TranslationFault) where
  cut_short : (r : Result Tree TextFault) → bind (refused_by Text (too_long r)) k ≡ bind (refused_by Text (too_long r)) k'
  cut_short (Ok t) = refl
  cut_short (Err (texts.Limit p)) = refl
  cut_short (Err (texts.Broken p)) = go (nat_lt p 65536)
    where
      go : (b : Bool)
          → bind (refused_by Text (cond b (Err (texts.Broken p)) (Err (texts.Limit 65535)))) k ≡ bind (refused_by Text (cond b (Err (texts.Broken p)) (Err (texts.Limit 65535)))) k'
      go true = refl
      go false = refl
  cut_short (Err (texts.NoMemory w)) = refl

-- it is refused, and so in the same words
module _ (text text' : List ℕ) (k : Tree → Result Stage TranslationFault) where
  same_words : (r : Result Tree TextFault) → answer_of text (bind (refused_by Text (too_long r)) k) ≡ answer_of text' (bind (refused_by Text (too_long r)) k)
  same_words (Ok t) = refl
  same_words (Err (texts.Limit p)) = refl
  same_words (Err (texts.Broken p)) = go (nat_lt p 65536)
    where
      go : (b : Bool)
          → answer_of text (bind (refused_by Text (cond b (Err (texts.Broken p)) (Err (texts.Limit 65535)))) k)
          ≡ answer_of text' (bind (refused_by Text (cond b (Err (texts.Broken p)) (Err (texts.Limit 65535)))) k)
      go true = refl
      go false = refl
  same_words (Err (texts.NoMemory w)) = refl

-- what is done with the tree of a text
abbrev with_tree : Limits → List ℕ → Tree → Result Stage TranslationFault
with_tree limits text t =
    bind (refused_by Shape (shape text t)) (λ S.
    bind (refused_by Declarations (declared text limits S)) (λ U.
    refused_by Lines (lines limits text [] S.lines (record { scope = U; players = [] }))))

first_bytes_decide : (limits : Limits) (text : List ℕ) → Decided limits text (take 65536 text)
first_bytes_decide limits text = go (nat_le (length text) 65535) refl
  where
    go : (b : Bool) → nat_le (length text) 65535 ≡ b → Decided limits text (take 65536 text)
    go true e =
        let h = leb-true (length text) 65535 e in
        let same = take_all 65536 text (omega (arith, h)) in
        record { result = ap (translation limits) same; bytes = ap (answer limits) same }
    go false e =
        let first = take 65536 text in
        let h = leb-false (length text) 65535 e in
        let n = length-take-le 65536 text (omega (arith, h)) in
        let whole : reading text ≡ too_long (read first) = ap (λ b. cond b (read text) (too_long (read first))) e in
        let part : reading first ≡ too_long (read first) =
        ap₂ (λ b xs. cond b (read first) (too_long (read xs))) (ap (λ k. nat_le k 65535) n) (take-take 65536 65536 text (omega arith)) in
        let there : translation limits first ≡ bind (refused_by Text (too_long (read first))) (with_tree limits text) =
        ap (λ o. bind (refused_by Text o) (with_tree limits first)) part ∙ cut_short (with_tree limits first) (with_tree limits text) (read first) in
        let here : translation limits text ≡ bind (refused_by Text (too_long (read first))) (with_tree limits text) =
        ap (λ o. bind (refused_by Text o) (with_tree limits text)) whole in
        record {
          result = there ∙ sym here;
          bytes = ap (answer_of first) there ∙ (same_words first text (with_tree limits text) (read first) ∙ sym (ap (answer_of text) here));
        }

pub beginning_decides : (limits : Limits) (text whole : List ℕ) → take 65536 whole ≡ text → Decided limits whole text
beginning_decides limits text whole e = subst (Decided limits whole) e (first_bytes_decide limits whole)
