-- The registers of an action, in the words of the model and in those of the check.
use Rattle.std.proofs.Common.{◌≡◌, ◌==◌, ℕ, zero, suc, ◌+◌, ◌<◌, true, false, not, List, [], ◌∷◌, ◌++◌, length, get_or, refl, sym, ap, ◌∙◌, subst, inl, inr, arith}
use Rattle.std.proofs.lemmas.Bool.{and_from, or_left, or_right, not_from_false, lt-ltb, eq-eqb, ne_eqb}
use Rattle.model.specs.Lists.{Every, SomeOf}
use Rattle.model.specs.ProgramLaw as law
use Rattle.model.specs.ProgramLaw.{targets, sources, Distinct}
use Rattle.model.specs.CountLaw.{Counted}
use Rattle.model.proofs.Lists.{some_left, some_right}
use Rattle.program.specs.declared.action.Action.{Action}
use Rattle.program.specs.declared.action.Action.TheVariants.{Give, New, Hear, Say, Same, Crypt, Tuple, Apply, OpenCrypt, OpenTuple, OpenApply}
use Rattle.program.specs.Actions.{act_of}
use Rattle.program.specs.Held.{from, reads, fills, has_declared_count, counted, has, has_all, has_none}
use Rattle.program.specs.Parts.{parts_of}

from_same : (r n : ℕ) → from r n ≡ law.from r n
from_same r zero = refl
from_same r (suc n) = let e : suc r ≡ r + 1 = omega arith in ap (λ q. r ∷ from q n) e ∙ ap (λ xs. r ∷ xs) (from_same (r + 1) n)

pub fills_targets : (a : Action) → fills a ≡ targets (act_of a)
fills_targets (Give t) = refl
fills_targets (New t) = refl
fills_targets (Hear t) = refl
fills_targets (Say r) = refl
fills_targets (Same l r) = refl
fills_targets (Crypt t x k) = refl
fills_targets (Tuple t ps) = refl
fills_targets (Apply t f ps) = refl
fills_targets (OpenCrypt t s k) = refl
fills_targets (OpenTuple f n s) = from_same f n
fills_targets (OpenApply f n s g) = from_same f n

pub reads_sources : (a : Action) → reads a ≡ sources (act_of a)
reads_sources (Give t) = refl
reads_sources (New t) = refl
reads_sources (Hear t) = refl
reads_sources (Say r) = refl
reads_sources (Same l r) = refl
reads_sources (Crypt t x k) = refl
reads_sources (Tuple t ps) = refl
reads_sources (Apply t f ps) = refl
reads_sources (OpenCrypt t s k) = refl
reads_sources (OpenTuple f n s) = refl
reads_sources (OpenApply f n s g) = refl

has_some : (r : ℕ) (qs : List ℕ) → SomeOf (λ q. r ≡ q) qs → has r qs ≡ true
has_some r [] i = elim i [ ]
has_some r (q ∷ qs) (inl e) = or_left (r == q) (has r qs) (eq-eqb r q e)
has_some r (q ∷ qs) (inr i) = or_right (r == q) (has r qs) (has_some r qs i)

-- registers that were all filled
pub all_filled : (rs qs : List ℕ) → Every (λ r. SomeOf (λ q. r ≡ q) qs) rs → has_all rs qs ≡ true
all_filled [] qs h = refl
all_filled (r ∷ rs) qs h = and_from (has r qs) (has_all rs qs) (has_some r qs h.0) (all_filled rs qs h.1)

-- registers that were not
apart : (qs rs : List ℕ) (r : ℕ) → Distinct (qs ++ rs) → SomeOf (λ q. r ≡ q) rs → has r qs ≡ false
apart [] rs r d i = refl
apart (q ∷ qs) rs r d i =
    rw (ne_eqb r q (λ e. d.0 (some_right (λ y. q ≡ y) qs rs (subst (λ z. SomeOf (λ y. z ≡ y) rs) e i)))) (apart qs rs r d.1 i)

none_of : (rs qs : List ℕ) → ((r : ℕ) → SomeOf (λ q. r ≡ q) rs → has r qs ≡ false) → has_none rs qs ≡ true
none_of [] qs f = refl
none_of (r ∷ rs) qs f = and_from (not (has r qs)) (has_none rs qs) (not_from_false (has r qs) (f r (inl refl))) (none_of rs qs (λ q i. f q (inr i)))

pub none_filled : (qs rs later : List ℕ) → Distinct (qs ++ (rs ++ later)) → has_none rs qs ≡ true
none_filled qs rs later d = none_of rs qs (λ r i. apart qs (rs ++ later) r d (some_left (λ q. r ≡ q) rs later i))

-- a count that is the declared one whatever stands behind those that are declared
in_list : (counts : List ℕ) (f n : ℕ) → ((d : ℕ) → n ≡ get_or counts f d) → f < length counts
in_list [] f n c = let a = c 0 in let b = c 1 in absurd (omega arith)
in_list (k ∷ counts) zero n c = omega arith
in_list (k ∷ counts) (suc f) n c = let h = in_list counts f n c in omega arith

declared_count : (counts : List ℕ) (f n : ℕ) → ((d : ℕ) → n ≡ get_or counts f d) → has_declared_count counts f n ≡ true
declared_count counts f n c = and_from _ _ (lt-ltb f (length counts) (in_list counts f n c)) (eq-eqb (get_or counts f 0) n (sym (c 0)))

pub counted_act : (counts : List ℕ) (a : Action) → ((d : ℕ) → Counted (λ f. get_or counts f d) (act_of a)) → counted counts a ≡ true
counted_act counts (Give t) c = refl
counted_act counts (New t) c = refl
counted_act counts (Hear t) c = refl
counted_act counts (Say r) c = refl
counted_act counts (Same l r) c = refl
counted_act counts (Crypt t x k) c = refl
counted_act counts (Tuple t ps) c = refl
counted_act counts (Apply t f ps) c = declared_count counts f (length (parts_of ps)) c
counted_act counts (OpenCrypt t s k) c = refl
counted_act counts (OpenTuple f n s) c = refl
counted_act counts (OpenApply f n s g) c = declared_count counts g n c
