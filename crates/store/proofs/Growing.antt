-- What stays true while handles become valid.
use Rattle.std.proofs.Common.{◌≡◌, ℕ, List, [], ◌∷◌, Bool, true, false, length, if◌then◌else◌, Some, None, Ok, Err, Option, Result, ok_or, option_map, nat_le, refl, ap, ap₂, ◌∙◌}
use mathlib.Core.Path.{subst⁻¹}
use Rattle.std.specs.Prelude.{IfOk}
use Rattle.model.specs.Trees.{Head, tupled, crypted, applied, Tree, node, Trees, leaf}
use Rattle.store.specs.declared.fault.StoreFault.{StoreFault}
use Rattle.store.specs.declared.fault.StoreFault.TheVariants.{Invalid, NoPart}
use Rattle.store.specs.declared.shape.Shape.{Shape}
use Rattle.store.specs.declared.call.Call.{Call}
use Rattle.store.specs.declared.call.Call.TheVariants.{MakeAtom, MakeTuple, MakeCrypt, MakeApply, AskShape, AskPart, AskUnlock, AskSame, AskSpace}
use Rattle.store.specs.declared.call.Answer.{Answer}
use Rattle.store.specs.declared.call.Answer.TheVariants as answers
use Rattle.store.specs.Makers.{with_more, gathered, wanted}
use Rattle.store.specs.Questions.{shape_answer, part_value, unlocked_value, same_answer, Answers}
use Rattle.store.specs.History.{OnHandle, OnShape, OnEqual, OnSpace, Names, Tells}

-- what is said of an answer may be weakened
pub handle_weaker : (P Q : Result ℕ StoreFault → Type 0) → ((r : Result ℕ StoreFault) → P r → Q r) → (a : Answer) → OnHandle P a → OnHandle Q a
handle_weaker P Q f (answers.Handle r) x = f r x
handle_weaker P Q f (answers.Shape r) x = x
handle_weaker P Q f (answers.Equal r) x = x
handle_weaker P Q f (answers.Space n) x = x

pub shape_weaker : (P Q : Result Shape StoreFault → Type 0) → ((r : Result Shape StoreFault) → P r → Q r) → (a : Answer) → OnShape P a → OnShape Q a
shape_weaker P Q f (answers.Handle r) x = x
shape_weaker P Q f (answers.Shape r) x = f r x
shape_weaker P Q f (answers.Equal r) x = x
shape_weaker P Q f (answers.Space n) x = x

pub equal_weaker : (P Q : Result Bool StoreFault → Type 0) → ((r : Result Bool StoreFault) → P r → Q r) → (a : Answer) → OnEqual P a → OnEqual Q a
equal_weaker P Q f (answers.Handle r) x = x
equal_weaker P Q f (answers.Shape r) x = x
equal_weaker P Q f (answers.Equal r) x = f r x
equal_weaker P Q f (answers.Space n) x = x

pub space_weaker : (P Q : ℕ → Type 0) → ((n : ℕ) → P n → Q n) → (a : Answer) → OnSpace P a → OnSpace Q a
space_weaker P Q f (answers.Handle r) x = x
space_weaker P Q f (answers.Shape r) x = x
space_weaker P Q f (answers.Equal r) x = x
space_weaker P Q f (answers.Space n) x = f n x

-- each valid handle keeps its value
abbrev pub Keeps : (ℕ → Option Tree) → (ℕ → Option Tree) → Type 0
Keeps m m' = (h : ℕ) → (v : Tree) → m h ≡ Some v → m' h ≡ Some v

-- what needs a valid handle
lifted : {X : Type 0} (F : Option Tree → Result X StoreFault) (e : StoreFault) → F None ≡ Err e → (o o' : Option Tree) → ((v : Tree) → o ≡ Some v → o' ≡ Some v) → (x : X) → F o ≡ Ok x → F o' ≡ Ok x
lifted F e n None o' k x q = absurd (cc)
lifted F e n (Some v) o' k x q = ap F (k v refl) ∙ q

module _ (m m' : ℕ → Option Tree) (kept : Keeps m m') where
  gathered_kept : (hs : List ℕ) (vs : Trees) → gathered m hs ≡ Some vs → gathered m' hs ≡ Some vs
  unfolding gathered
  gathered_kept [] vs e = e
  gathered_kept (h ∷ hs) vs e = go (m h) (gathered m hs) (kept h) (gathered_kept hs) e
    where
      go : (o : Option Tree) (p : Option Trees) → ((v : Tree) → o ≡ Some v → m' h ≡ Some v) → ((ws : Trees) → p ≡ Some ws → gathered m' hs ≡ Some ws) → with_more o p ≡ Some vs → with_more (m' h) (gathered m' hs) ≡ Some vs
      go None p f g q = absurd (cc)
      go (Some v) None f g q = absurd (cc)
      go (Some v) (Some ws) f g q = ap₂ with_more (f v refl) (g ws refl) ∙ q

  pub wanted_kept : (head : Head) (hs : List ℕ) (v : Tree) → wanted m head hs ≡ Ok v → wanted m' head hs ≡ Ok v
  wanted_kept head hs v e = go (nat_le (length hs) 8) (gathered m hs) (gathered_kept hs) e
    where
      go : (b : Bool) (o : Option Trees) → ((ws : Trees) → o ≡ Some ws → gathered m' hs ≡ Some ws) → (if b then ok_or (option_map (node head) o) Invalid else Err NoPart) ≡ Ok v
          → (if b then ok_or (option_map (node head) (gathered m' hs)) Invalid else Err NoPart) ≡ Ok v
      go false o f q = absurd (cc)
      go true None f q = absurd (cc)
      go true (Some ws) f q = ap (λ p. ok_or (option_map (node head) p) Invalid) (f ws refl) ∙ q

  part_kept : (h i : ℕ) (v : Tree) → part_value (m h) i ≡ Ok v → part_value (m' h) i ≡ Ok v
  part_kept h i = lifted (λ o. part_value o i) Invalid refl (m h) (m' h) (kept h)

  unlocked_kept : (h k : ℕ) (v : Tree) → unlocked_value (m h) (m k) ≡ Ok v → unlocked_value (m' h) (m' k) ≡ Ok v
  unlocked_kept h k v e = go (m h) (m k) (kept h) (kept k) e
    where
      go : (o p : Option Tree) → ((w : Tree) → o ≡ Some w → m' h ≡ Some w) → ((w : Tree) → p ≡ Some w → m' k ≡ Some w) → unlocked_value o p ≡ Ok v → unlocked_value (m' h) (m' k) ≡ Ok v
      go None p f g q = absurd (cc)
      go (Some w) None f g q = absurd (cc)
      go (Some w) (Some x) f g q = ap₂ unlocked_value (f w refl) (g x refl) ∙ q

  same_kept : (h k : ℕ) (b : Bool) → same_answer (m h) (m k) ≡ Ok b → same_answer (m' h) (m' k) ≡ Ok b
  same_kept h k b e = go (m h) (m k) (kept h) (kept k) e
    where
      go : (o p : Option Tree) → ((w : Tree) → o ≡ Some w → m' h ≡ Some w) → ((w : Tree) → p ≡ Some w → m' k ≡ Some w) → same_answer o p ≡ Ok b → same_answer (m' h) (m' k) ≡ Ok b
      go None p f g q = absurd (cc)
      go (Some w) None f g q = absurd (cc)
      go (Some w) (Some x) f g q = ap₂ same_answer (f w refl) (g x refl) ∙ q

  names_kept : (w w' : Result Tree StoreFault) → ((v : Tree) → w ≡ Ok v → w' ≡ Ok v) → (r : Result ℕ StoreFault) → Names m w r → Names m' w' r
  names_kept (Ok v) w' f (Ok h) x = subst⁻¹ (λ o. Answers m' o (Ok h)) (f v refl) (kept h v x)
  names_kept (Err e) w' f (Ok h) x = elim x [ ]
  names_kept w w' f (Err e) x = x

  handle_kept : (w w' : Result Tree StoreFault) → ((v : Tree) → w ≡ Ok v → w' ≡ Ok v) → (a : Answer) → OnHandle (Names m w) a → OnHandle (Names m' w') a
  handle_kept w w' f a x = handle_weaker (Names m w) (Names m' w') (names_kept w w' f) a x

  ok_kept : {X : Type 0} (w w' : Result X StoreFault) → ((x : X) → w ≡ Ok x → w' ≡ Ok x) → (r : Result X StoreFault) → IfOk r (λ x. w ≡ Ok x) → IfOk r (λ x. w' ≡ Ok x)
  ok_kept w w' f (Ok x) p = f x p
  ok_kept w w' f (Err e) p = p

  -- so an answer stays true
  pub true_kept : (c : Call) (a : Answer) → Tells m c a → Tells m' c a
  true_kept (MakeAtom n) a x = handle_kept (Ok (leaf n)) (Ok (leaf n)) (λ v e. e) a x
  true_kept (MakeTuple hs) a x = handle_kept (wanted m tupled hs.now) (wanted m' tupled hs.now) (wanted_kept tupled hs.now) a x
  true_kept (MakeCrypt t k) a x = handle_kept (wanted m crypted (t ∷ k ∷ [])) (wanted m' crypted (t ∷ k ∷ [])) (wanted_kept crypted (t ∷ k ∷ [])) a x
  true_kept (MakeApply f hs) a x = handle_kept (wanted m (applied f) hs.now) (wanted m' (applied f) hs.now) (wanted_kept (applied f) hs.now) a x
  true_kept (AskShape h) a x =
      shape_weaker (λ r. IfOk r (λ s. shape_answer (m h) ≡ Ok s)) (λ r. IfOk r (λ s. shape_answer (m' h) ≡ Ok s))
      (ok_kept (shape_answer (m h)) (shape_answer (m' h)) (lifted shape_answer Invalid refl (m h) (m' h) (kept h))) a x
  true_kept (AskPart h i) a x = handle_kept (part_value (m h) i) (part_value (m' h) i) (part_kept h i) a x
  true_kept (AskUnlock h k) a x = handle_kept (unlocked_value (m h) (m k)) (unlocked_value (m' h) (m' k)) (unlocked_kept h k) a x
  true_kept (AskSame l r) a x =
      equal_weaker (λ b. IfOk b (λ e. same_answer (m l) (m r) ≡ Ok e)) (λ b. IfOk b (λ e. same_answer (m' l) (m' r) ≡ Ok e))
      (ok_kept (same_answer (m l) (m r)) (same_answer (m' l) (m' r)) (same_kept l r)) a x
  true_kept AskSpace a x = x
