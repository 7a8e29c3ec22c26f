-- A run's life so far: what it was given and heard and what it made are the holdings of the lines that it took.
use Rattle.std.proofs.Common.{◌≡◌, ℕ, ◌<◌, Bool, true, false, cond, T, ltb, ◌⊎◌, ◌↔◌, List, [], ◌∷◌, ◌++◌, refl, ap, ◌∙◌, subst, inl, inr, append-nil, ltb→lt}
use mathlib.Core.Option.{some}
use mathlib.Core.Path.{subst⁻¹}
use Rattle.model.specs.Lists.{Every, zip, firsts}
use Rattle.model.specs.Trees.{Tree, leaf}
use Rattle.model.specs.Deduction.{Party}
use Rattle.model.specs.Roles.{Role, start, heard, Said, spoke, failed, said}
use Rattle.model.specs.Lives.{Life, starts, hears, says, Holdings, Disciplined, spoken}
use Rattle.model.specs.Holdings.{Stock, nothing_held, add, TermOf}
use Rattle.model.specs.Specifications.{Specification, message, Duty, begin, speak, listen, own, duties, life_on, life}
use Rattle.model.specs.Programs.{nobody_yet, next_role, given, takes, new_names, names}
use Rattle.model.proofs.Lists.{firsts_append}
use Rattle.model.proofs.Machine.{some_inj, no_some}
use Rattle.model.proofs.Feeding.{Fed, fed_firsts}
use Rattle.model.proofs.Scripts.{Script, started, hearing, saying}
use Rattle.model.proofs.Fitting.{Fit}
use Rattle.model.proofs.Linked.{some_firsts, script_holdings}
use Rattle.model.proofs.Duties.{IsLine, own_lines, disciplined_before}
use Rattle.model.proofs.Names.{disciplined}

-- not begun, or in the midst of the role's life
abbrev pub Living : Specification → ℕ → Role → List Duty → Stock → Type 0
Living S r s left h =
    ((s ≡ nobody_yet) × (h ≡ nothing_held) × (left ≡ duties S r))
    ⊎ ((l : Life) × Script (S.party r) l s (firsts h.taken) (firsts h.made) × Every IsLine left × (life_on S l left ≡ life S r) × (r < S.roles))

module _ (S : Specification) (r : ℕ) where
  abbrev P : Party
  P = S.party r

  -- one duty more
  abbrev GoesOn : Role → Role → Stock → List Tree → List ℕ → List Tree → List ℕ → List Duty → Type 0
  GoesOn s s' h vs ns vs' ns' [] = Unit {0}
  GoesOn s s' h vs ns vs' ns' (d ∷ ds) =
      Fit (message S) d s → next_role (message S) P d s ≡ some s' → Fed (λ t v. Unit {0}) (takes (message S) P d) vs vs'
      → Fed (λ a k. Unit {0}) (names d s s') ns ns' → Living S r s' ds (add h (takes (message S) P d) vs (names d s s') ns)

  module _ (s s' : Role) (vs : List Tree) (ns : List ℕ) (vs' : List Tree) (ns' : List ℕ) where
    from_start : (xs : List Duty) → xs ≡ duties S r → GoesOn s s' nothing_held vs ns vs' ns' xs
    from_start xs e = subst⁻¹ (GoesOn s s' nothing_held vs ns vs' ns') e (go (ltb r S.roles) (ltb→lt r S.roles))
      where
        ts : List Tree
        ts = S.knows r

        go : (b : Bool) → (T b → r < S.roles) → GoesOn s s' nothing_held vs ns vs' ns' (cond b (begin ts ∷ own S r) [])
        go true g = λ f q i j.
            inr (
              starts ts,
              subst (λ z. Script P (starts ts) z (firsts (zip (given P ts) vs)) []) (some_inj q)
                  (subst⁻¹ (λ xs. Script P (starts ts) (start P ts) xs []) (fed_firsts (λ x y. Unit {0}) (given P ts) vs vs' i) (started ts f.1)),
              own_lines S r 1 S.lines,
              refl,
              g tt,
            )
        go false g = tt

    in_life : (h : Stock) (d : Duty) (ds : List Duty) (l : Life) → Script P l s (firsts h.taken) (firsts h.made) → IsLine d → Every IsLine ds
        → life_on S l (d ∷ ds) ≡ life S r → r < S.roles → GoesOn s s' h vs ns vs' ns' (d ∷ ds)
    in_life h (begin ts) ds l k i is e m f q fi fn = elim i [ ]
    in_life h (listen n) ds l k i is e m f q fi fn =
        let t = message S n in
        inr (
          hears l t,
          subst (λ z. Script P (hears l t) z (firsts (h.taken ++ zip (t ∷ []) vs)) (firsts (h.made ++ []))) (some_inj q)
              (subst⁻¹ (λ xs. Script P (hears l t) (heard P t s) (firsts (h.taken ++ zip (t ∷ []) vs)) (firsts xs)) (append-nil h.made)
              (subst⁻¹ (λ xs. Script P (hears l t) (heard P t s) xs (firsts h.made))
              (firsts_append h.taken (zip (t ∷ []) vs) ∙ ap (λ xs. firsts h.taken ++ xs) (fed_firsts (λ x y. Unit {0}) (t ∷ []) vs vs' fi)) (hearing k t f))),
          is,
          e,
          m,
        )
    in_life h (speak n mk) ds l k i is e m f q fi fn = go (said P mk t s) refl q
      where
        t : Tree
        t = message S n

        go : (x : Said) → said P mk t s ≡ x → spoken x ≡ some s' → Living S r s' ds (add h [] vs (new_names s s') ns)
        go (spoke u) p w =
            inr (
              says l mk t,
              subst⁻¹ (λ xs. Script P (says l mk t) s' (firsts xs) (firsts (h.made ++ zip (new_names s s') ns))) (append-nil h.taken)
                  (subst⁻¹ (Script P (says l mk t) s' (firsts h.taken))
                  (firsts_append h.made (zip (new_names s s') ns) ∙ ap (λ xs. firsts h.made ++ xs) (fed_firsts (λ x y. Unit {0}) (new_names s s') ns ns' fn))
                  (saying k mk t f s' (p ∙ ap spoke (some_inj w)))),
              is,
              e,
              m,
            )
        go (failed u) p w = absurd (no_some w)

    pub living_on : (h : Stock) (d : Duty) (ds : List Duty) → Living S r s (d ∷ ds) h → GoesOn s s' h vs ns vs' ns' (d ∷ ds)
    living_on h d ds (inl x) = subst⁻¹ (λ k. GoesOn s s' k vs ns vs' ns' (d ∷ ds)) x.1 (from_start (d ∷ ds) x.2)
    living_on h d ds (inr (l, k, i, e, m)) = in_life h d ds l k i.0 i.1 e m

  -- the terms held are the holdings of the life so far
  pub living_holds : (s : Role) (left : List Duty) (h : Stock) → Living S r s left h
      → ((s ≡ nobody_yet) × (h ≡ nothing_held) × (left ≡ duties S r)) ⊎ ((l : Life) × (life_on S l left ≡ life S r) × ((u : Tree) → TermOf h u ↔ Holdings l u))
  living_holds s left h (inl x) = inl x
  living_holds s left h (inr (l, k, i, e, m)) = inr (l, e, holds)
    where
      d : Disciplined l
      d = disciplined_before S left i l (subst⁻¹ Disciplined e (disciplined S r m))

      holds : (u : Tree) → TermOf h u ↔ Holdings l u
      holds u =
          let q = script_holdings P k d u in
          let a = some_firsts (λ t. u ≡ t) h.taken in
          let b = some_firsts (λ a. u ≡ leaf a) h.made in (
            elim [ inl x ↦ q.0 (inl (a.0 x)) | inr y ↦ q.0 (inr (b.0 y)) ],
            λ x. elim (q.1 x) [ inl y ↦ inl (a.1 y) | inr z ↦ inr (b.1 z) ],
          )
