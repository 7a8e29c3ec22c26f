-- The law of refusals, proved: what one action, a stage and a call leave.
use Rattle.std.proofs.Common.{◌≡◌, ℕ, suc, ◌-◌, ◌≤◌, Bool, true, false, cond, ◌&&◌, eqb, leb, ◌⊎◌, List, [], ◌∷◌, refl, inl, inr, arith}
use mathlib.Core.Option.{Option, none as nothing, some}
use Rattle.model.specs.Trees.{Head, tupled, crypted, applied, Tree, leaf, node, Trees, none, more, eq_head, eq_tree}
use Rattle.model.specs.Roles.{Act, give, new, hear as hear_it, say as say_it, same, make, split, unlock, count}
use Rattle.model.specs.Runs.{reads, Fault, mismatch, full, Machine, Result, ran, refused, need, need_all, check, take_input, pay, take_number, open_up, open_crypt, step, Outcome, ended, stopped, attempt}
use Rattle.model.specs.Programs.{Stage}
use Rattle.model.specs.Sessions.{State, Event, begin, say, hear, build, other, Answer, taken, declined, in_turn, valid, concluded, machine_for, tried, counts_right, handled, call}
use Rattle.model.specs.SessionLaw.{Taken, Refused}
use Rattle.model.specs.RefusalLaw.{RefusalLaw}
use Rattle.model.proofs.OutOfTurn.{fault_later, eleven, thirteen}

-- no action raises the space
abbrev Falls : ℕ → Result → Type 0
Falls n (ran M) = M.space ≤ n
Falls n (refused f) = Unit {0}

falls_check : (n : ℕ) (b : Bool) (f : Fault) (M : Machine) → M.space ≤ n → Falls n (check b f (ran M))
falls_check n true f M h = h
falls_check n false f M h = tt

falls_need : (n : ℕ) (o : Option Tree) (k : Tree → Result) → ((v : Tree) → Falls n (k v)) → Falls n (need o k)
falls_need n nothing k f = tt
falls_need n (some v) k f = f v

falls_need_all : (n : ℕ) (o : Option Trees) (k : Trees → Result) → ((v : Trees) → Falls n (k v)) → Falls n (need_all o k)
falls_need_all n nothing k f = tt
falls_need_all n (some v) k f = f v

falls_input : (r : ℕ) (M : Machine) (l : List Tree) → Falls M.space (take_input r M l)
falls_input r M [] = tt
falls_input r M (v ∷ l) = omega arith

falls_number : (c : Tree → ℕ) (r : ℕ) (M : Machine) (l : List ℕ) → Falls M.space (take_number c r M l)
falls_number c r M [] = tt
falls_number c r M (n ∷ l) = falls_check M.space (leb (c (leaf n)) M.space) full _ (omega arith)

falls_open : (f n : ℕ) (h : Head) (v : Tree) (M : Machine) → Falls M.space (open_up f n h v M)
falls_open f n h (leaf a) M = tt
falls_open f n h (node g vs) M = falls_check M.space (eq_head h g && eqb n (count vs)) mismatch _ (omega arith)

falls_crypt : (x : ℕ) (v w : Tree) (M : Machine) → Falls M.space (open_crypt x v w M)
falls_crypt x (leaf a) w M = tt
falls_crypt x (node tupled vs) w M = tt
falls_crypt x (node (applied f) vs) w M = tt
falls_crypt x (node crypted none) w M = tt
falls_crypt x (node crypted (more v none)) w M = tt
falls_crypt x (node crypted (more v (more k none))) w M = falls_check M.space (eq_tree k w) mismatch _ (omega arith)
falls_crypt x (node crypted (more v (more k (more u us)))) w M = tt

step_falls : (c : Tree → ℕ) (a : Act) (M : Machine) → Falls M.space (step c a M)
step_falls c (give r) M = falls_input r M M.inputs
step_falls c (hear_it r) M = falls_input r M M.inputs
step_falls c (new r) M = falls_number c r M M.numbers
step_falls c (say_it r) M = falls_need M.space (M.mem r) (λ v. ran M) (λ v. omega arith)
step_falls c (same r q) M =
    falls_need M.space (M.mem r) (λ v. need (M.mem q) (λ w. check (eq_tree v w) mismatch (ran M)))
    (λ v. falls_need M.space (M.mem q) (λ w. check (eq_tree v w) mismatch (ran M)) (λ w. falls_check M.space (eq_tree v w) mismatch M (omega arith)))
step_falls c (make r h rs) M =
    falls_need_all M.space (reads M.mem rs) (λ vs. pay c r (node h vs) M)
    (λ vs. falls_check M.space (leb (c (node h vs)) M.space) full _ (omega arith))
step_falls c (split f n h r) M = falls_need M.space (M.mem r) (λ v. open_up f n h v M) (λ v. falls_open f n h v M)
step_falls c (unlock x r k) M =
    falls_need M.space (M.mem r) (λ v. need (M.mem k) (λ w. open_crypt x v w M))
    (λ v. falls_need M.space (M.mem k) (λ w. open_crypt x v w M) (λ w. falls_crypt x v w M))

abbrev space_left : Outcome → ℕ
space_left (ended M) = M.space
space_left (stopped f k n) = n

attempt_falls : (c : Tree → ℕ) (xs : List Act) (k : ℕ) (M : Machine) → space_left (attempt c xs k M) ≤ M.space
attempt_falls c [] k M = omega arith
attempt_falls c (a ∷ rest) k M = go (step c a M) (step_falls c a M) (λ N. attempt_falls c rest (suc k) N)
  where
    go : (x : Result) → Falls M.space x → ((N : Machine) → space_left (attempt c rest (suc k) N) ≤ N.space)
        → space_left (elim x [ ran N ↦ attempt c rest (suc k) N | refused f ↦ stopped f k M.space ]) ≤ M.space
    go (ran N) h f = let p = f N in omega arith
    go (refused e) h f = omega arith

-- what a call leaves, by its answer
record Left (s : State) (x : State × Answer) : Type 0 where
  less : x.0.space ≤ s.space
  keeps : ¬ Taken x.1 → x.0.views ≡ s.views
  unaltered : Refused 11 x.1 ⊎ Refused 13 x.1 → x.0 ≡ s

same_leaves : (s : State) (a : Answer) → Left s (s, a)
same_leaves s a = record { less = omega arith; keeps = λ n. refl; unaltered = λ h. refl }

tried_leaves : (c : Tree → ℕ) (r : ℕ) (st : Stage) (vs : List Tree) (ns : List ℕ) (s : State) → Left s (tried c r st vs ns s)
tried_leaves c r st vs ns s =
    go (attempt c st.actions (s.views r).done (machine_for r vs ns s)) (attempt_falls c st.actions (s.views r).done (machine_for r vs ns s))
  where
    go : (x : Outcome) → space_left x ≤ s.space → Left s (concluded r st vs ns s x)
    go (ended M) h = record { less = h; keeps = λ n. absurd (n tt); unaltered = elim [ inl p ↦ absurd p | inr p ↦ absurd p ] }
    go (stopped f k n) h = record { less = h; keeps = λ n. refl; unaltered = elim [ inl p ↦ absurd (fault_later 11 (inl refl) f p) | inr p ↦ absurd (fault_later 13 (inr refl) f p) ] }

call_leaves : (c : Tree → ℕ) (s : State) (e : Event) → Left s (call c s e)
call_leaves c s (begin r hs ns) = go (in_turn s (begin r hs ns))
  where
    one : (st : Stage) (b : Bool) → Left s (cond b (tried c r st (valid hs) ns s) (s, declined 13 (s.views r).done))
    one st true = tried_leaves c r st (valid hs) ns s
    one st false = same_leaves s _

    go : (o : Option Stage) → Left s (handled c s (begin r hs ns) o)
    go nothing = same_leaves s _
    go (some st) = one st (counts_right (s.views r).ahead hs ns)
call_leaves c s (say r) = go (in_turn s (say r))
  where
    go : (o : Option Stage) → Left s (handled c s (say r) o)
    go nothing = same_leaves s _
    go (some st) = tried_leaves c r st [] (s.views r).numbers s
call_leaves c s (hear r h) = go (in_turn s (hear r h))
  where
    go : (o : Option Stage) → Left s (handled c s (hear r h) o)
    go nothing = same_leaves s _
    go (some st) = tried_leaves c r st (valid (h ∷ [])) (s.views r).numbers s
call_leaves c s (build v) = go (leb (c v) s.space)
  where
    go : (b : Bool) → Left s (cond b (record { space = s.space - c v; views = s.views }, taken nothing) (s, declined 15 0))
    go true = record { less = omega arith; keeps = λ n. refl; unaltered = elim [ inl p ↦ absurd p | inr p ↦ absurd p ] }
    go false = same_leaves s _
call_leaves c s other = same_leaves s _

pub refusal_law : RefusalLaw
refusal_law c s e =
    let x = call_leaves c s e in
    record { eleven = eleven c s e; thirteen = thirteen c s e; unaltered = x.unaltered; runs_kept = x.keeps; space_falls = x.less }
