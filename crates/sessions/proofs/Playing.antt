-- A session of plain runs, beside the model's.
use Rattle.std.proofs.Common.{◌≡◌, ℕ, suc, ◌-◌, Bool, true, false, cond, T, eqb, leb, ◌⊎◌, ◌↔◌, List, [], ◌∷◌, sym, refl, ap, ◌∙◌, inl, inr}
use mathlib.Core.Option.{Option, none as nothing, some}
use mathlib.Core.Path.{subst⁻¹, fun_ext}
use Rattle.model.specs.Trees.{Tree}
use Rattle.model.specs.Runs.{Outcome, ended, stopped, attempt}
use Rattle.model.specs.Programs.{Stage, line_of}
use Rattle.model.specs.Sessions as model
use Rattle.model.specs.Sessions.{View, State, Event, begin, say, hear, build, other, Answer, taken, declined, rest_of_stages, in_turn, valid, new_view, new_runs, machine_for, counts_right, handled, tried, concluded}
use Rattle.model.specs.SessionLaw.{Numbered}
use Rattle.model.proofs.Machine.{eqb_iff}
use Rattle.sessions.specs.Plays.{Playing, plain_of, plays_of, turned, play}
use Rattle.sessions.proofs.Shaped.{Shaped}
use Rattle.sessions.proofs.Calling.{seen, begin_same, say_same, hear_same}

-- a call of one role moves no other run, and that one by at most a stage
abbrev Stepped : ℕ → State → State × Answer → Type 0
Stepped r s x = (q : ℕ) → (x.0.views q ≡ s.views q) ⊎ ((r ≡ q) × ((x.0.views q).ahead ≡ rest_of_stages (s.views q).ahead))

-- what is left of each program
abbrev pub AllShaped : State → Type 0
AllShaped s = (r : ℕ) → (l : ℕ) × Shaped l (s.views r).ahead

rest_shaped : (l : ℕ) (xs : List Stage) → Shaped l xs → (k : ℕ) × Shaped k (rest_of_stages xs)
rest_shaped l [] s = (l, s)
rest_shaped l (st ∷ rest) s = (suc (line_of st.turn), s.2)

module _ (c : Tree → ℕ) (s : State) where
  tried_steps : (r : ℕ) (st : Stage) (vs : List Tree) (ns : List ℕ) → Stepped r s (tried c r st vs ns s)
  tried_steps r st vs ns = go (attempt c st.actions (s.views r).done (machine_for r vs ns s))
    where
      at : (q : ℕ) (v : View) → v.ahead ≡ rest_of_stages (s.views r).ahead → (b : Bool) → (T b → r ≡ q)
          → (cond b v (s.views q) ≡ s.views q) ⊎ ((r ≡ q) × ((cond b v (s.views q)).ahead ≡ rest_of_stages (s.views q).ahead))
      at q v e true i = inr (i tt, e ∙ ap (λ z. rest_of_stages (s.views z).ahead) (i tt))
      at q v e false i = inl refl

      go : (o : Outcome) → Stepped r s (concluded r st vs ns s o)
      go (ended M) q = at q (model.went_on (s.views r) st vs ns M) refl (eqb r q) (eqb_iff r q).0
      go (stopped f k n) q = inl refl

  begin_steps : (r : ℕ) (hs : List (Option Tree)) (ns : List ℕ) (o : Option Stage) → Stepped r s (handled c s (begin r hs ns) o)
  begin_steps r hs ns nothing = λ q. inl refl
  begin_steps r hs ns (some st) = go (counts_right (s.views r).ahead hs ns)
    where
      go : (b : Bool) → Stepped r s (cond b (tried c r st (valid hs) ns s) (s, declined 13 (s.views r).done))
      go true = tried_steps r st (valid hs) ns
      go false = λ q. inl refl

  say_steps : (r : ℕ) (o : Option Stage) → Stepped r s (handled c s (say r) o)
  say_steps r nothing = λ q. inl refl
  say_steps r (some st) = tried_steps r st [] (s.views r).numbers

  hear_steps : (r : ℕ) (h : Option Tree) (o : Option Stage) → Stepped r s (handled c s (hear r h) o)
  hear_steps r h nothing = λ q. inl refl
  hear_steps r h (some st) = tried_steps r st (valid (h ∷ [])) (s.views r).numbers

  -- so the plain runs go on as the model's
  turned_same : (r : ℕ) (x : State × Answer) → Stepped r s x → turned (plays_of s) r (seen r x) ≡ (plays_of x.0, x.1)
  turned_same r x h = ap (λ f. (record { space = x.0.space; runs = f }, x.1)) (fun_ext (λ q. at q (eqb r q) (eqb_iff r q)))
    where
      at : (q : ℕ) (b : Bool) → (T b ↔ (r ≡ q)) → cond b (plain_of (x.0.views r)) (plain_of (s.views q)) ≡ plain_of (x.0.views q)
      at q true i = ap (λ z. plain_of (x.0.views z)) (i.0 tt)
      at q false i = elim (h q) [ inl e ↦ ap plain_of (sym e) | inr e ↦ absurd (i.1 e.0) ]

  -- one call
  pub play_same : AllShaped s → (e : Event) → Numbered (model.call c s e).1 → play c (plays_of s) e ≡ (plays_of (model.call c s e).0, (model.call c s e).1)
  play_same all (begin r hs ns) n =
      ap (turned (plays_of s) r) (begin_same c s r (all r).0 (all r).1 hs ns n)
      ∙ turned_same r (model.call c s (begin r hs ns)) (begin_steps r hs ns (in_turn s (begin r hs ns)))
  play_same all (say r) n =
      ap (turned (plays_of s) r) (say_same c s r (all r).0 (all r).1 n)
      ∙ turned_same r (model.call c s (say r)) (say_steps r (in_turn s (say r)))
  play_same all (hear r h) n =
      ap (turned (plays_of s) r) (hear_same c s r (all r).0 (all r).1 h n)
      ∙ turned_same r (model.call c s (hear r h)) (hear_steps r h (in_turn s (hear r h)))
  play_same all (build v) n = go (leb (c v) s.space)
    where
      x : Bool → State × Answer
      x b = cond b (record { space = s.space - c v; views = s.views }, taken nothing) (s, declined 15 0)

      p : Bool → Playing × Answer
      p b = cond b (record { space = s.space - c v; runs = (plays_of s).runs }, taken nothing) (plays_of s, declined 15 0)

      go : (b : Bool) → p b ≡ (plays_of (x b).0, (x b).1)
      go true = refl
      go false = refl
  play_same all other n = refl

  stepped_shaped : (r : ℕ) (x : State × Answer) → Stepped r s x → AllShaped s → AllShaped x.0
  stepped_shaped r x h all q =
      elim (h q) [
        | inl e ↦ subst⁻¹ (λ v. (l : ℕ) × Shaped l v.ahead) e (all q)
        | inr e ↦ subst⁻¹ (λ xs. (l : ℕ) × Shaped l xs) e.1 (rest_shaped (all q).0 (s.views q).ahead (all q).1)
      ]

  pub call_shaped : AllShaped s → (e : Event) → AllShaped (model.call c s e).0
  call_shaped all (begin r hs ns) = stepped_shaped r (model.call c s (begin r hs ns)) (begin_steps r hs ns (in_turn s (begin r hs ns))) all
  call_shaped all (say r) = stepped_shaped r (model.call c s (say r)) (say_steps r (in_turn s (say r))) all
  call_shaped all (hear r h) = stepped_shaped r (model.call c s (hear r h)) (hear_steps r h (in_turn s (hear r h))) all
  call_shaped all (build v) = go (leb (c v) s.space)
    where
      go : (b : Bool) → AllShaped (cond {A = State × Answer} b (record { space = s.space - c v; views = s.views }, taken nothing) (s, declined 15 0)).0
      go true = all
      go false = all
  call_shaped all other = all
