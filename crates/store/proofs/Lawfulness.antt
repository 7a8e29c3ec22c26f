-- The law of any calls in order.
use Rattle.std.proofs.Common.{◌≡◌, ◌≢◌, ℕ, zero, suc, ◌+◌, ◌<◌, ◌≤◌, List, [], ◌∷◌, Some, None, Ok, Err, Option, Result, refl, sym, ap, ap₂, ◌∙◌, subst, arith, below_more, length, get_or, set, drop}
use mathlib.Core.Path.{subst⁻¹}
use Rattle.std.proofs.lemmas.List.{get_or_default, get_or-set_same, get_or-set_other, drop-set-lt, drop-drop}
use Rattle.model.specs.Trees.{tupled, crypted, applied, Tree, leaf}
use Rattle.store.specs.declared.fault.StoreFault.{StoreFault}
use Rattle.store.specs.declared.call.Call.{Call}
use Rattle.store.specs.declared.call.Call.TheVariants.{MakeAtom, MakeTuple, MakeCrypt, MakeApply, AskShape, AskPart, AskUnlock, AskSame, AskSpace}
use Rattle.store.specs.declared.call.Answer.{Answer}
use Rattle.store.specs.declared.call.Answer.TheVariants as answers
use Rattle.store.specs.Semantics.{Semantics}
use Rattle.store.specs.Makers.{wanted}
use Rattle.store.specs.History.{OnHandle, handle_of, made, Names, Tells, Answered, price, price_of, call_at, answer_at, made_at, is_made, made_count, Performed, start, more, total, Lawful}
use Rattle.store.proofs.Growing.{Keeps, true_kept}
use Rattle.store.proofs.Steps.{Steps, steps}

-- a handle that a maker answered is valid
abbrev pub Valid : (ℕ → Option Tree) → ℕ → Type 0
Valid m h = (v : Tree) × (m h ≡ Some v)

module _ (m : ℕ → Option Tree) where
  named_valid : (w : Result Tree StoreFault) (a : Answer) (h : ℕ) → OnHandle (Names m w) a → handle_of a ≡ Some h → Valid m h
  named_valid (Ok v) (answers.Handle (Ok k)) h x e = let q : h ≡ k = cc in (v, ap m q ∙ x)
  named_valid (Err f) (answers.Handle (Ok k)) h x e = elim x [ ]
  named_valid w (answers.Handle (Err f)) h x e = absurd (cc)
  named_valid w (answers.Shape r) h x e = elim x [ ]
  named_valid w (answers.Equal r) h x e = elim x [ ]
  named_valid w (answers.Space n) h x e = elim x [ ]

  made_valid : (c : Call) (a : Answer) (h : ℕ) → Tells m c a → made c a ≡ Some h → Valid m h
  made_valid (MakeAtom n) a h x e = named_valid (Ok (leaf n)) a h x e
  made_valid (MakeTuple hs) a h x e = named_valid (wanted m tupled hs.now) a h x e
  made_valid (MakeCrypt t k) a h x e = named_valid (wanted m crypted (t ∷ k ∷ [])) a h x e
  made_valid (MakeApply f hs) a h x e = named_valid (wanted m (applied f) hs.now) a h x e
  made_valid (AskShape k) a h x e = absurd (cc)
  made_valid (AskPart k i) a h x e = absurd (cc)
  made_valid (AskUnlock k j) a h x e = absurd (cc)
  made_valid (AskSame l r) a h x e = absurd (cc)
  made_valid AskSpace a h x e = absurd (cc)

module _ {S : Type 0} (M : Semantics S) (calls : List Call) (given : List Answer) (old : S) where
  -- a handle that is not valid was not valid before
  not_before : (s t : S) (h : ℕ) → Keeps (M.means s) (M.means t) → M.means t h ≡ None → M.means s h ≡ None
  not_before s t h k e = go (M.means s h) refl
    where
      go : (o : Option Tree) → M.means s h ≡ o → o ≡ None
      go None q = refl
      go (Some v) q = let x = k h v q in absurd (cc)

  -- what was made costs the same later
  price_kept : (t u : S) (o : Option ℕ) → Keeps (M.means t) (M.means u) → ((h : ℕ) → o ≡ Some h → Valid (M.means t) h) → price_of (M.cost old) (M.means u) o ≡ price_of (M.cost old) (M.means t) o
  price_kept t u None k f = refl
  price_kept t u (Some h) k f = let v = f h refl in ap (price (M.cost old)) (k h v.0 v.1 ∙ sym v.1)

  total_kept : (t u : S) (n : ℕ) → Keeps (M.means t) (M.means u) → ((k h : ℕ) → k < n → made_at calls given k ≡ Some h → Valid (M.means t) h)
      → total M calls given old u n ≡ total M calls given old t n
  total_kept t u zero k f = refl
  total_kept t u (suc n) k f =
      ap₂ (λ (x y : ℕ). x + y) (total_kept t u n k (λ j h l. f j h (omega arith))) (price_kept t u (made_at calls given n) k (λ h. f n h (omega arith)))

  made_there : (t : S) (n k h : ℕ) → Lawful M calls given old n t → k < n → made_at calls given k ≡ Some h → Valid (M.means t) h
  made_there t n k h l b e = made_valid (M.means t) (call_at calls k) (answer_at given k) h (l.holds k b) e

  -- one call more
  goes_on : (n : ℕ) (t u : S) → Lawful M calls given old n t
      → Steps M t u (call_at calls n) (answer_at given n) → Lawful M calls given old (suc n) u
  goes_on n t u l s =
      let call = call_at calls in
      let answer = answer_at given in
      let made_by = made_at calls given in
      record {
        kept = λ h v e. s.kept h v (l.kept h v e);
        holds = λ k b. below_more (λ i. Tells (M.means u) (call i) (answer i)) n (λ i m. true_kept (M.means t) (M.means u) s.kept (call i) (answer i) (l.holds i m)) s.holds k (omega arith);
        fresh = λ k h b. below_more (λ i. made_by i ≡ Some h → M.means old h ≡ None) n (λ i m. l.fresh i h m) (λ e. not_before old t h l.kept (s.fresh h e)) k (omega arith);
        own = λ j k h b c e. below_more (λ i. j < i → made_by i ≢ Some h) n (λ i m x. l.own j i h x m e)
            (λ x f. let v = made_there t n j h l x e in let z = s.fresh h f in absurd (cc)) k (omega arith) b;
        paid =
            let q = total_kept t u n s.kept (λ k h b. made_there t n k h l b) in
            let y = subst (λ (c : Tree → ℕ). M.space u + price_of c (M.means u) (made_by n) ≡ M.space t) l.priced s.paid in
            let z = l.paid in
            omega arith;
        priced = s.priced ∙ l.priced;
      }

  pub lawful : {n : ℕ} {t : S} → Performed M calls given old n t → Lawful M calls given old n t
  lawful start = record {
    kept = λ h v e. e;
    holds = λ k l. absurd (omega arith);
    fresh = λ k h l. absurd (omega arith);
    own = λ j k h l m. absurd (omega arith);
    paid = omega arith;
    priced = refl;
  }
  lawful (more {n = n} {t = t} p u a) =
      goes_on n t u (lawful p) (steps M t u (call_at calls n) (answer_at given n) a)

  -- the first calls look at the first answers alone
  pub other_answers : (others : List Answer) {n : ℕ} {t : S} → ((k : ℕ) → k < n → answer_at others k ≡ answer_at given k)
      → Performed M calls given old n t → Performed M calls others old n t
  other_answers others f start = start
  other_answers others f (more {n = n} {t = t} p u a) =
      more (other_answers others (λ k b. f k (omega arith)) p) u (subst⁻¹ (Answered M t u (call_at calls n)) (f n (omega arith)) a)

  pub performs_more : (i : ℕ) (t u : S) (r : Answer) → i < length calls → i < length given → Performed M calls given old i t
      → Answered M t u (get_or calls i (MakeAtom 0)) r → Performed M calls (set given i r) old (i + 1) u
  performs_more i t u r b l p a =
      let c = get_or_default calls i (MakeAtom 0) AskSpace b in
      let d = get_or-set_same given i r (answers.Space 0) l in
      let z : i + 1 ≡ suc i = omega arith in
      rw z
      (more (other_answers (set given i r) (λ k m. get_or-set_other given i k r (answers.Space 0) (λ e. absurd (omega arith))) p) u
      (subst⁻¹ (Answered M t u (get_or calls i AskSpace)) d (subst (λ x. Answered M t u x r) c a)))

  -- each value costs something, so that there are no more than there was space
  count_bound : ((v : Tree) → 1 ≤ M.cost old v) → (t : S) (n : ℕ) → ((k h : ℕ) → k < n → made_at calls given k ≡ Some h → Valid (M.means t) h) → made_count calls given n ≤ total M calls given old t n
  count_bound costs t zero f = omega arith
  count_bound costs t (suc n) f = let c = count_bound costs t n (λ k h b. f k h (omega arith)) in let p = go (made_at calls given n) (λ h. f n h (omega arith)) in omega arith
    where
      go : (o : Option ℕ) → ((h : ℕ) → o ≡ Some h → Valid (M.means t) h) → is_made o ≤ price_of (M.cost old) (M.means t) o
      go None g = omega arith
      go (Some h) g = let v = g h refl in let e = ap (price (M.cost old)) v.1 in let c = costs v.0 in omega arith

  pub few : ((v : Tree) → 1 ≤ M.cost old v) → (n : ℕ) (t : S) → Lawful M calls given old n t → made_count calls given n + M.space t ≤ M.space old
  few costs n t l = let c = count_bound costs t n (λ k h b. made_there t n k h l b) in let p = l.paid in omega arith

  pub small : ((s : S) → (h : ℕ) → (v : Tree) → M.means s h ≡ Some v → h < 4294967295) → (n : ℕ) (t : S) → Lawful M calls given old n t → (k h : ℕ) → k < n → made_at calls given k ≡ Some h → h < 4294967295
  small fits n t l k h b e = let v = made_there t n k h l b e in fits t h v.0 v.1

-- what a write before leaves of the rest
pub rest_more : (xs ys : List Answer) (i : ℕ) (r : Answer) → drop i xs ≡ drop i ys → drop (i + 1) (set xs i r) ≡ drop (i + 1) ys
rest_more xs ys i r e = drop-set-lt (i + 1) xs i r (omega arith) ∙ sym (drop-drop 1 i xs) ∙ ap (drop 1) e ∙ drop-drop 1 i ys
