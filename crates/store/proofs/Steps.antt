-- What one call does, whichever it is.
use Rattle.std.proofs.Common.{◌≡◌, ℕ, ◌+◌, [], ◌∷◌, Some, None, Ok, Err, Result, refl, sym, ap, ◌∙◌, arith}
use mathlib.Core.Path.{subst⁻¹}
use Rattle.std.specs.Prelude.{IfOk}
use Rattle.model.specs.Trees.{tupled, crypted, applied, Tree, leaf}
use Rattle.store.specs.declared.fault.StoreFault.{StoreFault}
use Rattle.store.specs.declared.call.Call.{Call}
use Rattle.store.specs.declared.call.Call.TheVariants.{MakeAtom, MakeTuple, MakeCrypt, MakeApply, AskShape, AskPart, AskUnlock, AskSame, AskSpace}
use Rattle.store.specs.declared.call.Answer.{Answer}
use Rattle.store.specs.declared.call.Answer.TheVariants as answers
use Rattle.store.specs.Semantics.{Semantics}
use Rattle.store.specs.Makers.{wanted, Makes}
use Rattle.store.specs.Questions.{shape_answer, part_value, unlocked_value, same_answer, Answers}
use Rattle.store.specs.History.{OnHandle, handle_of, made, Names, Tells, Answered, price, price_of}
use Rattle.store.proofs.Growing.{handle_weaker, shape_weaker, equal_weaker, space_weaker, Keeps, wanted_kept}

module _ {S : Type 0} (M : Semantics S) where
  pub record Steps (s t : S) (c : Call) (a : Answer) : Type 0 where
    pub kept : Keeps (M.means s) (M.means t)
    pub holds : Tells (M.means t) c a
    pub fresh : (h : ℕ) → made c a ≡ Some h → M.means s h ≡ None
    pub paid : M.space t + price_of (M.cost s) (M.means t) (made c a) ≡ M.space s
    pub priced : M.cost t ≡ M.cost s

  -- the same of a maker, that is asked for what w' says in the end
  record Makers (s t : S) (w' : Result Tree StoreFault) (a : Answer) : Type 0 where
    kept : Keeps (M.means s) (M.means t)
    holds : OnHandle (Names (M.means t) w') a
    fresh : (h : ℕ) → handle_of a ≡ Some h → M.means s h ≡ None
    paid : M.space t + price_of (M.cost s) (M.means t) (handle_of a) ≡ M.space s
    priced : M.cost t ≡ M.cost s

  module _ (s t : S) where
    same_keeps : t ≡ s → Keeps (M.means s) (M.means t)
    same_keeps e h v q = ap (λ (x : S). M.means x h) e ∙ q

    same_pays : t ≡ s → M.space t + 0 ≡ M.space s
    same_pays e = let q : M.space t ≡ M.space s = ap M.space e in omega arith

    refuses : (w' : Result Tree StoreFault) (e : StoreFault) → t ≡ s → Makers s t w' (answers.Handle (Err e))
    refuses w' e q = record { kept = same_keeps q; holds = tt; fresh = λ h x. absurd (cc); paid = same_pays q; priced = ap M.cost q }

    makers : (w w' : Result Tree StoreFault) → (Keeps (M.means s) (M.means t) → (v : Tree) → w ≡ Ok v → w' ≡ Ok v) → (a : Answer) → OnHandle (Makes M s t w) a → Makers s t w' a
    makers (Ok v) w' f (answers.Handle (Ok h)) x = record {
      kept = x.kept;
      holds = subst⁻¹ (λ o. Answers (M.means t) o (Ok h)) (f x.kept v refl) x.named;
      fresh = λ k e. let q : k ≡ h = cc in ap (M.means s) q ∙ x.fresh;
      paid = ap (λ o. M.space t + price (M.cost s) o) x.named ∙ x.paid;
      priced = x.priced;
    }
    makers (Ok v) w' f (answers.Handle (Err e)) x = refuses w' e x.1
    makers (Err g) w' f (answers.Handle (Ok h)) x = elim x [ ]
    makers (Err g) w' f (answers.Handle (Err e)) x = refuses w' e x.1
    makers w w' f (answers.Shape r) x = elim x [ ]
    makers w w' f (answers.Equal r) x = elim x [ ]
    makers w w' f (answers.Space n) x = elim x [ ]

    asked : (c : Call) (a : Answer) → made c a ≡ None → t ≡ s → Tells (M.means s) c a → Steps s t c a
    asked c a n e x = record {
      kept = same_keeps e;
      holds = subst⁻¹ (λ (z : S). Tells (M.means z) c a) e x;
      fresh = λ h q. absurd (cc);
      paid = ap (λ o. M.space t + price_of (M.cost s) (M.means t) o) n ∙ same_pays e;
      priced = ap M.cost e;
    }

    named : (w : Result Tree StoreFault) (a : Answer) → OnHandle (Answers (M.means s) w) a → OnHandle (Names (M.means s) w) a
    named w a x = handle_weaker (Answers (M.means s) w) (Names (M.means s) w) go a x
      where
        go : (r : Result ℕ StoreFault) → Answers (M.means s) w r → Names (M.means s) w r
        go (Ok h) x = x
        go (Err e) x = tt

    ok_of : {X : Type 0} (w r : Result X StoreFault) → r ≡ w → IfOk r (λ x. w ≡ Ok x)
    ok_of w (Ok x) e = sym e
    ok_of w (Err f) e = tt

    pub steps : (c : Call) (a : Answer) → Answered M s t c a → Steps s t c a
    steps (MakeAtom n) a x =
        let m = makers (Ok (leaf n)) (Ok (leaf n)) (λ k v e. e) a x in
        record { kept = m.kept; holds = m.holds; fresh = m.fresh; paid = m.paid; priced = m.priced }
    steps (MakeTuple hs) a x =
        let m = makers (wanted (M.means s) tupled hs.now) (wanted (M.means t) tupled hs.now) (λ k. wanted_kept (M.means s) (M.means t) k tupled hs.now) a x in
        record { kept = m.kept; holds = m.holds; fresh = m.fresh; paid = m.paid; priced = m.priced }
    steps (MakeCrypt y k) a x =
        let m = makers (wanted (M.means s) crypted (y ∷ k ∷ [])) (wanted (M.means t) crypted (y ∷ k ∷ [])) (λ z. wanted_kept (M.means s) (M.means t) z crypted (y ∷ k ∷ [])) a x in
        record { kept = m.kept; holds = m.holds; fresh = m.fresh; paid = m.paid; priced = m.priced }
    steps (MakeApply f hs) a x =
        let m = makers (wanted (M.means s) (applied f) hs.now) (wanted (M.means t) (applied f) hs.now) (λ k. wanted_kept (M.means s) (M.means t) k (applied f) hs.now) a x in
        record { kept = m.kept; holds = m.holds; fresh = m.fresh; paid = m.paid; priced = m.priced }
    steps (AskShape h) a x =
        asked (AskShape h) a refl x.0 (shape_weaker (λ r. r ≡ shape_answer (M.means s h)) (λ r. IfOk r (λ z. shape_answer (M.means s h) ≡ Ok z)) (ok_of (shape_answer (M.means s h))) a x.1)
    steps (AskPart h i) a x = asked (AskPart h i) a refl x.0 (named (part_value (M.means s h) i) a x.1)
    steps (AskUnlock h k) a x = asked (AskUnlock h k) a refl x.0 (named (unlocked_value (M.means s h) (M.means s k)) a x.1)
    steps (AskSame l r) a x =
        asked (AskSame l r) a refl x.0 (equal_weaker (λ b. b ≡ same_answer (M.means s l) (M.means s r)) (λ b. IfOk b (λ e. same_answer (M.means s l) (M.means s r) ≡ Ok e)) (ok_of (same_answer (M.means s l) (M.means s r))) a x.1)
    steps AskSpace a x = asked AskSpace a refl x.0 (space_weaker (λ n. n ≡ M.space s) (λ n. Unit {0}) (λ n e. tt) a x.1)
