-- Any calls in order, on any store: what was ever answered stays true.
use Rattle.std.specs.Prelude.{◌≡◌, ◌≢◌, ℕ, zero, suc, ◌+◌, ◌<◌, Bool, List, [], ◌∷◌, Some, None, Ok, Err, IfOk, Option, Result, slice_index_or}
use Rattle.model.specs.Trees.{tupled, crypted, applied, Tree, leaf}
use Rattle.store.specs.declared.fault.StoreFault.{StoreFault}
use Rattle.store.specs.declared.shape.Shape.{Shape}
use Rattle.store.specs.declared.call.Call.{Call}
use Rattle.store.specs.declared.call.Call.TheVariants.{MakeAtom, MakeTuple, MakeCrypt, MakeApply, AskShape, AskPart, AskUnlock, AskSame, AskSpace}
use Rattle.store.specs.declared.call.Answer.{Answer}
use Rattle.store.specs.declared.call.Answer.TheVariants as answers
use Rattle.store.specs.Semantics.{Semantics}
use Rattle.store.specs.Makers.{wanted, Makes}
use Rattle.store.specs.Questions.{shape_answer, part_value, unlocked_value, same_answer, Answers}

-- an answer of one kind, of which something holds
abbrev pub OnHandle : (Result ℕ StoreFault → Type 0) → Answer → Type 0
OnHandle P (answers.Handle r) = P r
OnHandle P (answers.Shape r) = ⊥
OnHandle P (answers.Equal r) = ⊥
OnHandle P (answers.Space n) = ⊥

abbrev pub OnShape : (Result Shape StoreFault → Type 0) → Answer → Type 0
OnShape P (answers.Handle r) = ⊥
OnShape P (answers.Shape r) = P r
OnShape P (answers.Equal r) = ⊥
OnShape P (answers.Space n) = ⊥

abbrev pub OnEqual : (Result Bool StoreFault → Type 0) → Answer → Type 0
OnEqual P (answers.Handle r) = ⊥
OnEqual P (answers.Shape r) = ⊥
OnEqual P (answers.Equal r) = P r
OnEqual P (answers.Space n) = ⊥

abbrev pub OnSpace : (ℕ → Type 0) → Answer → Type 0
OnSpace P (answers.Handle r) = ⊥
OnSpace P (answers.Shape r) = ⊥
OnSpace P (answers.Equal r) = ⊥
OnSpace P (answers.Space n) = P n

-- the handle of a value that was made
abbrev pub handle_of : Answer → Option ℕ
handle_of (answers.Handle (Ok h)) = Some h
handle_of (answers.Handle (Err e)) = None
handle_of (answers.Shape r) = None
handle_of (answers.Equal r) = None
handle_of (answers.Space n) = None

abbrev pub made : Call → Answer → Option ℕ
made (MakeAtom n) a = handle_of a
made (MakeTuple hs) a = handle_of a
made (MakeCrypt t k) a = handle_of a
made (MakeApply f hs) a = handle_of a
made (AskShape h) a = None
made (AskPart h i) a = None
made (AskUnlock h k) a = None
made (AskSame l r) a = None
made AskSpace a = None

-- calls and their answers by number
abbrev pub call_at : List Call → ℕ → Call
call_at calls k = slice_index_or calls k AskSpace

abbrev pub answer_at : List Answer → ℕ → Answer
answer_at given k = slice_index_or given k (answers.Space 0)

abbrev pub made_at : List Call → List Answer → ℕ → Option ℕ
made_at calls given k = made (call_at calls k) (answer_at given k)

-- how many values the first n calls made
abbrev pub is_made : Option ℕ → ℕ
is_made None = 0
is_made (Some h) = 1

abbrev pub made_count : List Call → List Answer → ℕ → ℕ
made_count calls given zero = 0
made_count calls given (suc n) = made_count calls given n + is_made (made_at calls given n)

-- what a value costs that was made, by a list of prices and what handles mean
abbrev pub price : (Tree → ℕ) → Option Tree → ℕ
price c None = 0
price c (Some v) = c v

abbrev pub price_of : (Tree → ℕ) → (ℕ → Option Tree) → Option ℕ → ℕ
price_of c m None = 0
price_of c m (Some h) = price c (m h)

-- What an answer tells of values, where handles mean what m says: a fault tells nothing.
module _ (m : ℕ → Option Tree) where
  abbrev pub Names : Result Tree StoreFault → Result ℕ StoreFault → Type 0
  Names w r = IfOk r (λ h. Answers m w (Ok h))

  abbrev pub Tells : Call → Answer → Type 0
  Tells (MakeAtom n) a = OnHandle (Names (Ok (leaf n))) a
  Tells (MakeTuple hs) a = OnHandle (Names (wanted m tupled hs.now)) a
  Tells (MakeCrypt t k) a = OnHandle (Names (wanted m crypted (t ∷ k ∷ []))) a
  Tells (MakeApply f hs) a = OnHandle (Names (wanted m (applied f) hs.now)) a
  Tells (AskShape h) a = OnShape (λ r. IfOk r (λ s. shape_answer (m h) ≡ Ok s)) a
  Tells (AskPart h i) a = OnHandle (Names (part_value (m h) i)) a
  Tells (AskUnlock h k) a = OnHandle (Names (unlocked_value (m h) (m k))) a
  Tells (AskSame l r) a = OnEqual (λ b. IfOk b (λ e. same_answer (m l) (m r) ≡ Ok e)) a
  Tells AskSpace a = OnSpace (λ n. Unit {0}) a

module _ {S : Type 0} (M : Semantics S) where
  -- one call: a maker does what it says; a question answers and alters nothing
  abbrev pub Answered : S → S → Call → Answer → Type 0
  Answered s t (MakeAtom n) a = OnHandle (Makes M s t (Ok (leaf n))) a
  Answered s t (MakeTuple hs) a = OnHandle (Makes M s t (wanted (M.means s) tupled hs.now)) a
  Answered s t (MakeCrypt x k) a = OnHandle (Makes M s t (wanted (M.means s) crypted (x ∷ k ∷ []))) a
  Answered s t (MakeApply f hs) a = OnHandle (Makes M s t (wanted (M.means s) (applied f) hs.now)) a
  Answered s t (AskShape h) a = (t ≡ s) × OnShape (λ r. r ≡ shape_answer (M.means s h)) a
  Answered s t (AskPart h i) a = (t ≡ s) × OnHandle (Answers (M.means s) (part_value (M.means s h) i)) a
  Answered s t (AskUnlock h k) a = (t ≡ s) × OnHandle (Answers (M.means s) (unlocked_value (M.means s h) (M.means s k))) a
  Answered s t (AskSame x y) a = (t ≡ s) × OnEqual (λ r. r ≡ same_answer (M.means s x) (M.means s y)) a
  Answered s t AskSpace a = (t ≡ s) × OnSpace (λ n. n ≡ M.space s) a

  module _ (calls : List Call) (given : List Answer) (old : S) where
    -- the first n calls, each with its answer, lead to a store
    pub data Performed : ℕ → S → Type 0 where
      start : Performed zero old
      more : {n : ℕ} {t : S} → Performed n t → (u : S) → Answered t u (call_at calls n) (answer_at given n) → Performed (suc n) u

    -- what the values cost that the first n calls made
    abbrev pub total : S → ℕ → ℕ
    total t zero = 0
    total t (suc n) = total t n + price_of (M.cost old) (M.means t) (made_at calls given n)

    -- The law of the first n calls, of the stores before and after them.
    pub record Lawful (n : ℕ) (new : S) : Type 0 where
      -- each handle that was valid keeps its value
      pub kept : (h : ℕ) → (v : Tree) → M.means old h ≡ Some v → M.means new h ≡ Some v
      -- what each answer told of values is so in the end
      pub holds : (k : ℕ) → k < n → Tells (M.means new) (call_at calls k) (answer_at given k)
      -- each value that was made has a handle that was not valid before, and that no other has
      pub fresh : (k h : ℕ) → k < n → made_at calls given k ≡ Some h → M.means old h ≡ None
      pub own : (j k h : ℕ) → j < k → k < n → made_at calls given j ≡ Some h → made_at calls given k ≢ Some h
      -- the space paid for what was made, and for nothing else
      pub paid : M.space new + total new n ≡ M.space old
      -- and no value costs more than before, or less
      pub priced : M.cost new ≡ M.cost old
