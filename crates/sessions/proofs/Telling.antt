-- What was observed of a role tells how its run stands in the model.
use Rattle.std.proofs.Common.{◌≡◌, ℕ, ◌+◌, Bool, T, ◌⊎◌, List, [], ◌∷◌, ◌++◌, length, take, drop, sym, refl, ap, ap₂, ◌∙◌, inl, inr, arith, append-nil, append_assoc, length-append}
use mathlib.Core.Path.{subst⁻¹}
use Rattle.model.specs.Lists.{zip}
use Rattle.model.specs.Trees.{Tree}
use Rattle.model.specs.Deduction.{Party}
use Rattle.model.specs.Runs.{Machine, ran, answer}
use Rattle.model.specs.Specifications.{Specification, message, Duty, duties}
use Rattle.model.specs.Programs.{nobody_yet, line, names, Turn, Stage, turn_of, stages, Accepted}
use Rattle.model.specs.Sessions.{View, State, new_view, Answer, rest_of_stages, valid, told, went_on, machine_for}
use Rattle.model.proofs.Exec.{exec}
use Rattle.model.proofs.Feeding.{Fed}
use Rattle.model.proofs.Fitting.{all_fitting}
use Rattle.model.proofs.Doing.{duty_done}
use Rattle.model.proofs.Attends.{Attends}
use Rattle.model.proofs.Coming.{Comes, comes_next, only_first}
use Rattle.run.specs.Shown.{Meaning}
use Rattle.sessions.specs.Observed.{Step, numbers_in, numbers_given, values_in, taken_in, said_in, all_taken_in, all_said, names_of, names_of_all, terms_of}
use Rattle.sessions.specs.RunLaw.{known_after, role_after}
use Rattle.sessions.proofs.Places.{Place, place, zip_more, drop_more, take_more}
use Rattle.sessions.proofs.Naming.{takes_are, makes_are}
use Rattle.sessions.proofs.Advancing.{Advances}

module _ {A B : Type 0} where
  pub zip_none : (xs : List A) → zip {B = B} xs [] ≡ []
  zip_none [] = refl
  zip_none (x ∷ xs) = refl

  -- as many as there are
  zip_cut : (xs : List A) (ys zs : List B) → length ys ≡ length xs → zip xs (ys ++ zs) ≡ zip xs ys
  zip_cut [] ys zs e = refl
  zip_cut (x ∷ xs) [] zs e = absurd (omega arith)
  zip_cut (x ∷ xs) (y ∷ ys) zs e = ap (λ l. (x, y) ∷ l) (zip_cut xs ys zs (omega arith))

  zip_join : (xs xs' : List A) (ys zs : List B) → length ys ≡ length xs → zip (xs ++ xs') (ys ++ zs) ≡ zip xs ys ++ zip xs' zs
  zip_join [] xs' [] zs e = refl
  zip_join [] xs' (y ∷ ys) zs e = absurd (omega arith)
  zip_join (x ∷ xs) xs' [] zs e = absurd (omega arith)
  zip_join (x ∷ xs) xs' (y ∷ ys) zs e = ap (λ l. (x, y) ∷ l) (zip_join xs xs' ys zs (omega arith))

  -- what was fed comes first
  fed_front : (Q : A → B → Type 0) (xs : List A) (ys rest : List B) → Fed Q xs ys rest → (front : List B) × (ys ≡ front ++ rest) × (length front ≡ length xs)
  fed_front Q [] ys rest f = ([], f, refl)
  fed_front Q (x ∷ xs) [] rest f = elim f [ ]
  fed_front Q (x ∷ xs) (y ∷ ys) rest f = let k = fed_front Q xs ys rest f.1 in (y ∷ k.0, ap (λ l. y ∷ l) k.1, omega arith)

nothing_long : {A : Type 0} (xs : List A) → length xs ≡ 0 → xs ≡ []
nothing_long [] e = refl
nothing_long (x ∷ xs) e = absurd (omega arith)

names_more : (X : Specification) (ds : List Duty) (d : Duty) → names_of_all X (ds ++ (d ∷ [])) ≡ names_of_all X ds ++ names_of X d
names_more X [] d = append-nil (names_of X d)
names_more X (x ∷ ds) d = ap (λ l. names_of X x ++ l) (names_more X ds d) ∙ sym (append_assoc (names_of X x) (names_of_all X ds) (names_of X d))

module _ {S : Type 0} where
  numbers_more : (cs : List (Step S)) (e : Step S) → numbers_given (cs ++ (e ∷ [])) ≡ numbers_given cs ++ numbers_in e.asked
  numbers_more [] e = append-nil (numbers_in e.asked)
  numbers_more (c ∷ cs) e = ap (λ l. numbers_in c.asked ++ l) (numbers_more cs e) ∙ sym (append_assoc (numbers_in c.asked) (numbers_given cs) (numbers_in e.asked))

  module _ (means : S → Meaning) (X : Specification) where
    taken_more : (ps : List (Duty × Step S)) (p : Duty × Step S) → all_taken_in means X (ps ++ (p ∷ [])) ≡ all_taken_in means X ps ++ taken_in means X p
    taken_more [] p = append-nil (taken_in means X p)
    taken_more (q ∷ ps) p = ap (λ l. taken_in means X q ++ l) (taken_more ps p) ∙ sym (append_assoc (taken_in means X q) (all_taken_in means X ps) (taken_in means X p))

    said_more : (ps : List (Duty × Step S)) (p : Duty × Step S) → all_said means X (ps ++ (p ∷ [])) ≡ all_said means X ps ++ said_in means X p.0 p.1
    said_more [] p = append-nil (said_in means X p.0 p.1)
    said_more (q ∷ ps) p = ap (λ l. said_in means X q.0 q.1 ++ l) (said_more ps p) ∙ sym (append_assoc (said_in means X q.0 q.1) (all_said means X ps) (said_in means X p.0 p.1))

    module _ (r : ℕ) where
      -- the taken calls of a role tell its run
      pub record Told (cs : List (Step S)) (v : View) : Type 0 where
        pub ahead : v.ahead ≡ drop (length cs) (stages X r)
        pub taken : v.holdings.taken ≡ all_taken_in means X (zip (duties X r) cs)
        pub made : v.holdings.made ≡ zip (names_of_all X (take (length cs) (duties X r))) (numbers_given cs)
        pub said : v.said ≡ all_said means X (zip (duties X r) cs)
        pub known : v.known ≡ known_after X r (length cs)
        pub used : List ℕ
        pub numbered : numbers_given cs ≡ used ++ v.numbers
        pub spent : length used ≡ length (names_of_all X (take (length cs) (duties X r)))

      pub told_new : Told [] (new_view (stages X r))
      told_new = record {
        ahead = refl;
        taken = ap (all_taken_in means X) (sym (zip_none (duties X r)));
        made = refl;
        said = ap (all_said means X) (sym (zip_none (duties X r)));
        known = refl;
        used = [];
        numbered = refl;
        spent = refl;
      }

      -- one taken call more
      module _ (acc : Accepted X) (c : Tree → ℕ) (s : State) (a : Attends X r (s.views r)) (p : Turn → Bool) (vs : List Tree) (ns : List ℕ) (x : State × Answer)
          (z : Advances c s r p vs ns x) (cs : List (Step S)) (t : Told cs (s.views r)) (e : Step S) where
        abbrev v : View
        v = s.views r

        abbrev P : Party
        P = X.party r

        abbrev st : Stage
        st = z.stage

        abbrev M : Machine
        M = z.machine

        abbrev ds : List Duty
        ds = duties X r

        first : (rest : List Stage) × (v.ahead ≡ st ∷ rest) × T (p st.turn)
        first = only_first p v.ahead st z.first

        next : drop (length cs) (stages X r) ≡ st ∷ first.0
        next = sym t.ahead ∙ first.1

        pub here : Place X P nobody_yet ds (length cs) st
        here = place X P cs ds nobody_yet (all_fitting X acc r) st first.0 next

        k : Comes X r v a st
        k = (comes_next X r v a p st z.first).0

        fed_stage : exec c (line a.role k.role') (machine_for r vs ns s) ≡ ran M → Fed (λ a k. Unit {0}) (names k.duty a.role k.role') ns M.numbers
        fed_stage y = (duty_done (message X) P c k.duty a.role k.role' a.sheet v.holdings (machine_for r vs ns s) a.stands k.fit k.programmed M y).4

        fed : Fed (λ a k. Unit {0}) st.makes ns M.numbers
        fed = subst⁻¹ (λ (w : Stage). exec c w.actions (machine_for r vs ns s) ≡ ran M → Fed (λ a k. Unit {0}) w.makes ns M.numbers) k.is fed_stage z.ran_to

        front : (front : List ℕ) × (ns ≡ front ++ M.numbers) × (length front ≡ length st.makes)
        front = fed_front (λ a k. Unit {0}) st.makes ns M.numbers fed

        takes_here : st.takes ≡ terms_of X here.duty
        takes_here = ap (λ (w : Stage). w.takes) here.is ∙ takes_are X P here.duty

        makes_here : st.makes ≡ names_of X here.duty
        makes_here = ap (λ (w : Stage). w.makes) here.is ∙ makes_are X acc r cs st here

        zips : zip ds (cs ++ (e ∷ [])) ≡ zip ds cs ++ ((here.duty, e) ∷ [])
        zips = zip_more ds cs here.duty here.later e here.here

        takes_more : take (length (cs ++ (e ∷ []))) ds ≡ take (length cs) ds ++ (here.duty ∷ [])
        takes_more = take_more ds cs here.duty here.later e here.here

        abbrev N : List ℕ
        N = names_of_all X (take (length cs) ds)

        all_names : names_of_all X (take (length (cs ++ (e ∷ []))) ds) ≡ N ++ st.makes
        all_names = ap (names_of_all X) takes_more ∙ names_more X (take (length cs) ds) here.duty ∙ ap (λ l. N ++ l) (sym makes_here)

        pub told_on : valid (values_in means e) ≡ vs → ((ns ≡ v.numbers) × (numbers_in e.asked ≡ [])) ⊎ ((cs ≡ []) × (ns ≡ numbers_in e.asked))
            → ((d : Duty) → turn_of d ≡ st.turn → told st.turn (answer st.actions M.mem) ≡ said_in means X d e)
            → Told (cs ++ (e ∷ [])) (went_on v st vs ns M)
        told_on values numbers says = record {
          ahead = ap rest_of_stages first.1 ∙ sym (drop_more (stages X r) cs st first.0 e next);
          taken = ap₂ (λ (a b : List (Tree × Tree)). a ++ b) t.taken (ap₂ zip takes_here (sym values))
              ∙ sym (taken_more (zip ds cs) (here.duty, e)) ∙ ap (all_taken_in means X) (sym zips);
          made = ap (λ (l : List (ℕ × ℕ)). l ++ zip st.makes ns) (t.made ∙ ap (zip N) t.numbered ∙ zip_cut N t.used v.numbers t.spent)
              ∙ sym (zip_join N st.makes t.used ns t.spent) ∙ ap₂ zip (sym all_names) (sym all_numbers);
          said = ap₂ (λ (a b : List (ℕ × Tree)). a ++ b) t.said (says here.duty (sym (ap (λ (w : Stage). w.turn) here.is)))
              ∙ sym (said_more (zip ds cs) (here.duty, e)) ∙ ap (all_said means X) (sym zips);
          known = ap (λ (w : Stage). w.known) here.is ∙ sym (ap (λ l. (role_after X P nobody_yet l).known) takes_more ∙ ap (λ w. w.known) here.goes);
          used = t.used ++ front.0;
          numbered = all_numbers ∙ ap (λ l. t.used ++ l) front.1 ∙ sym (append_assoc t.used front.0 M.numbers);
          spent = length-append t.used front.0 ∙ ap₂ (λ a b. a + b) t.spent front.2 ∙ sym (length-append N st.makes) ∙ ap length (sym all_names);
        }
          where
            all_numbers : numbers_given (cs ++ (e ∷ [])) ≡ t.used ++ ns
            all_numbers = go numbers
              where
                go : ((ns ≡ v.numbers) × (numbers_in e.asked ≡ [])) ⊎ ((cs ≡ []) × (ns ≡ numbers_in e.asked)) → numbers_given (cs ++ (e ∷ [])) ≡ t.used ++ ns
                go (inl q) = numbers_more cs e ∙ ap (λ l. numbers_given cs ++ l) q.1 ∙ append-nil (numbers_given cs) ∙ t.numbered ∙ ap (λ l. t.used ++ l) (sym q.0)
                go (inr q) = ap (λ (l : List (Step S)). numbers_given (l ++ (e ∷ []))) q.0 ∙ append-nil (numbers_in e.asked) ∙ sym q.1 ∙ ap (λ l. l ++ ns) (sym none)
                  where
                    none : t.used ≡ []
                    none = nothing_long t.used (t.spent ∙ ap (λ (l : List (Step S)). length (names_of_all X (take (length l) ds))) q.0)
