-- What reading answers from any state on, in the words of the grammar.
use Rattle.std.proofs.Common.{◌≡◌, ℕ, suc, ◌+◌, ◌<◌, ◌≤◌, Bool, true, false, cond, leb, ◌⊎◌, List, [], ◌∷◌, ◌++◌, length, take, Ok, Err, Result, sym, refl, ap, ◌∙◌, subst, inl, inr, append_assoc, add-zero, arith, length-append}
use Rattle.std.proofs.lemmas.Bool.{leb-true, leb-false, or_cases, or_parts}
use Rattle.text.specs.Grammar.{Spot, Bytes}
use Rattle.text.specs.Law.{nodes, nodes_all, Shallow, Fits, FitsBefore, Passes}
use Rattle.text.specs.Machine.{Frame, State, Step, broken, goes, begins, step, finish, follow, run}
use Rattle.text.specs.Reading.{count, full}
use Rattle.text.specs.Trees.{Tree}
use Rattle.text.specs.declared.fault.TextFault.{TextFault}
use Rattle.text.specs.declared.fault.TextFault.TheVariants.{Limit, Broken, NoMemory}
use Rattle.text.proofs.Spots.{spot}
use Rattle.text.proofs.Completing.{Completes, Onward}
use Rattle.text.proofs.Stepping.{onward}
use Rattle.text.proofs.Backing.{Good, backward, EveryWay, good_step}
use Rattle.text.proofs.Ending.{ended_nil, nil_ended, finish_broken, complete}
use Rattle.text.proofs.Seen.{seen, seen_in, completes_seen, finish_all, length_seen, Adds, adds}

abbrev Nodes : Type 0
Nodes = List (ℕ × ℕ)

-- Some bytes go on from these and complete the state; all that do so have some property.
abbrev pub GoesOn : State → ℕ → List ℕ → Type 0
GoesOn s at bs = (more : List ℕ) × (T : Tree) × Completes s (spot at (bs ++ more)) T × Bytes more

abbrev pub AllOn : State → ℕ → List ℕ → (Tree → Type 0) → Type 0
AllOn s at bs P = (more : List ℕ) (T : Tree) → Completes s (spot at (bs ++ more)) T → P T

pub record WholeFrom (at : ℕ) (s : State) (bs : List ℕ) (T : Tree) : Type 0 where
  pub completes : Completes s (spot at bs) T
  pub fits : Fits (nodes 1 T)
  pub so_far : AllOn s at bs (FitsBefore (at + length bs))

pub record BrokenFrom (at : ℕ) (s : State) (bs : List ℕ) (p : ℕ) : Type 0 where
  pub taken : ℕ
  pub place : p ≡ at + taken
  pub within : taken ≤ length bs
  pub begins : GoesOn s at (take taken bs)
  pub ends : taken < length bs → AllOn s at (take (suc taken) bs) (λ T. ⊥)
  pub unfinished : taken ≡ length bs → (T : Tree) → Completes s (spot at bs) T → ⊥
  pub fits : AllOn s at (take taken bs) (FitsBefore p)

pub record LimitFrom (at : ℕ) (s : State) (bs : List ℕ) (p : ℕ) : Type 0 where
  pub taken : ℕ
  pub place : p ≡ at + taken
  pub within : taken < length bs
  pub begins : GoesOn s at (take (suc taken) bs)
  pub passes : AllOn s at (take (suc taken) bs) (Passes p)

abbrev pub Outcome : ℕ → State → List ℕ → Result Tree TextFault → Type 0
Outcome at s bs (Ok T) = WholeFrom at s bs T
Outcome at s bs (Err (Broken p)) = BrokenFrom at s bs p
Outcome at s bs (Err (Limit p)) = LimitFrom at s bs p
Outcome at s bs (Err (NoMemory w)) = ⊥

seen_before : (s : State) → Fits (seen s) → (z : Spot) (T : Tree) → Completes s z T → FitsBefore z.place T
seen_before s f z T h =
    let l = completes_seen s z T h in
    record { earlier = seen s; later = l.later; all = l.all; fits = f; from = l.from }

-- The end of the text.
at_end : (at : ℕ) (s : State) → Good s → Fits (seen s) → (r : Result Tree TextFault) → finish at s ≡ r → Outcome at s [] r
at_end at s g f (Ok T) e =
    record {
      completes = nil_ended s at T g e;
      fits = subst Fits (finish_all s at T e) f;
      so_far = λ more U h. subst (λ p. FitsBefore p U) (sym (add-zero at)) (seen_before s f (spot at more) U h);
    }
at_end at s g f (Err e) q = subst (λ x. Outcome at s [] (Err x)) (sym (finish_broken s at e q)) broken_here
  where
    broken_here : BrokenFrom at s [] at
    broken_here =
        record {
          taken = 0;
          place = sym (add-zero at);
          within = omega arith;
          begins = complete s g at;
          ends = λ l. absurd (omega arith);
          unfinished = λ l T h. let a = ended_nil s at T h in let z : ◌≡◌ {A = ℕ} 0 1 = cc in omega arith;
          fits = λ more T h. seen_before s f (spot at more) T h;
        }

-- A byte that cannot stand here.
no_step : (at b : ℕ) (bs : List ℕ) (s : State) → Good s → Fits (seen s) → step at s b ≡ broken → BrokenFrom at s (b ∷ bs) at
no_step at b bs s g f e =
    record {
      taken = 0;
      place = sym (add-zero at);
      within = omega arith;
      begins = complete s g at;
      ends = λ l more T h. subst (λ z. Onward z (λ s'. Completes s' (spot (at + 1) more) T)) e (onward at b more T s h);
      unfinished = λ l. absurd (omega arith);
      fits = λ more T h. seen_before s f (spot at more) T h;
    }

-- One byte more in front.
module _ (at b : ℕ) (s s' : State) (on : (bs : List ℕ) (T : Tree) → Completes s (spot at (b ∷ bs)) T → Completes s' (spot (at + 1) bs) T) (back : (bs : List ℕ) (T : Tree) → Completes s' (spot (at + 1) bs) T → Completes s (spot at (b ∷ bs)) T) where
  longer : (bs : List ℕ) (r : Result Tree TextFault) → Outcome (at + 1) s' bs r → Outcome at s (b ∷ bs) r
  longer bs (Ok T) o =
      let p : at + 1 + length bs ≡ at + suc (length bs) = omega arith in
      record {
        completes = back bs T o.completes;
        fits = o.fits;
        so_far = λ more U h. subst (λ k. FitsBefore k U) p (o.so_far more U (on (bs ++ more) U h));
      }
  longer bs (Err (Broken p)) o =
      let q = o.place in
      let w = o.within in
      record {
        taken = suc o.taken;
        place = omega arith;
        within = omega arith;
        begins = (o.begins.0, o.begins.1, back (take o.taken bs ++ o.begins.0) o.begins.1 o.begins.2, o.begins.3);
        ends = λ l more T h. o.ends (omega arith) more T (on (take (suc o.taken) bs ++ more) T h);
        unfinished = λ l T h. o.unfinished (omega arith) T (on bs T h);
        fits = λ more T h. o.fits more T (on (take o.taken bs ++ more) T h);
      }
  longer bs (Err (Limit p)) o =
      let q = o.place in
      let w = o.within in
      record {
        taken = suc o.taken;
        place = omega arith;
        within = omega arith;
        begins = (o.begins.0, o.begins.1, back (take (suc o.taken) bs ++ o.begins.0) o.begins.1 o.begins.2, o.begins.3);
        passes = λ more T h. o.passes more T (on (take (suc o.taken) bs ++ more) T h);
      }
  longer bs (Err (NoMemory w)) o = absurd o

shallow_append : (ms ns : Nodes) → Shallow (ms ++ ns) → Shallow ns
shallow_append [] ns h = h
shallow_append (m ∷ ms) ns h = shallow_append ms ns h.1

shallow_push : (ms : Nodes) (n : ℕ × ℕ) → Shallow ms → n.1 ≤ 32 → Shallow (ms ++ (n ∷ []))
shallow_push [] n h l = (l, tt)
shallow_push (m ∷ ms) n h l = (h.0, shallow_push ms n h.1 l)

-- Brackets that fit are at most 32.
open_few : (fs : List Frame) → Fits (seen_in fs) → length fs ≤ 32
open_few [] h = omega arith
open_few (f ∷ fs) h =
    let s = shallow_append (seen_in fs) ((f.at, length fs + 1) ∷ nodes_all (length fs + 1 + 1) f.parts) h.shallow in
    let l = s.0 in
    omega arith

-- A node that begins within the limits.
fits_more : (at : ℕ) (fs : List Frame) → full fs ≡ false → Fits (seen_in fs) → Fits (seen_in fs ++ ((at, length fs + 1) ∷ []))
fits_more at fs e h =
    let p = or_parts (leb 4096 (count fs)) (leb 32 (length fs)) e in
    let a = leb-false 4096 (count fs) p.0 in
    let b = leb-false 32 (length fs) p.1 in
    let c = length_seen fs in
    let d = length-append (seen_in fs) ((at, length fs + 1) ∷ []) in
    record { few = omega arith; shallow = shallow_push (seen_in fs) (at, length fs + 1) h.shallow (omega arith) }

-- A node that passes one.
fits_no_more : (at : ℕ) (fs : List Frame) → full fs ≡ true → Fits (seen_in fs) → (length (seen_in fs) ≡ 4096) ⊎ (length fs + 1 ≡ 33)
fits_no_more at fs e h =
    let c = length_seen fs in
    let f = h.few in
    let o = open_few fs h in
    elim (or_cases (leb 4096 (count fs)) (leb 32 (length fs)) e) [
      | inl p ↦ let a = leb-true 4096 (count fs) p in inl (omega arith)
      | inr p ↦ let a = leb-true 32 (length fs) p in inr (omega arith)
    ]

too_many : (at b : ℕ) (bs : List ℕ) (s : State) → Good s → Fits (seen s) → (fs : List Frame) (s' : State) → Good s' → step at s b ≡ begins fs s' → seen s' ≡ seen s ++ ((at, length fs + 1) ∷ []) → seen s ≡ seen_in fs → full fs ≡ true → LimitFrom at s (b ∷ bs) at
too_many at b bs s g f fs s' g' e n m full_is =
    let c = complete s' g' (at + 1) in
    let over : (length (seen s) ≡ 4096) ⊎ (length fs + 1 ≡ 33) = subst (λ ns. (length ns ≡ 4096) ⊎ (length fs + 1 ≡ 33)) (sym m) (fits_no_more at fs full_is (subst Fits m f)) in
    record {
      taken = 0;
      place = sym (add-zero at);
      within = omega arith;
      begins = (c.0, c.1, backward at b c.0 c.1 s g (subst (λ z. Onward z (λ t. Completes t (spot (at + 1) c.0) c.1)) (sym e) c.2), c.3);
      passes = λ more T h.
          let o = subst (λ z. Onward z (λ t. Completes t (spot (at + 1) more) T)) e (onward at b more T s h) in
          let l = completes_seen s' (spot (at + 1) more) T o in
          record {
            earlier = seen s;
            level = length fs + 1;
            later = l.later;
            all = l.all ∙ ap (λ ns. ns ++ l.later) n ∙ append_assoc (seen s) ((at, length fs + 1) ∷ []) l.later;
            fits = f;
            over = over;
          };
    }

-- What reading answers from a state on.
pub outcome : (bs : List ℕ) (at : ℕ) (s : State) → Good s → Fits (seen s) → Outcome at s bs (run full at s bs)
unfolding run
outcome [] at s g f = at_end at s g f (finish at s) refl
outcome (b ∷ bs) at s g f = by_step (step at s b) refl (good_step at b s) (adds at b s) (outcome bs (at + 1))
  where
    by_step : (z : Step) → step at s b ≡ z → EveryWay z Good → Adds at (seen s) z → ((t : State) → Good t → Fits (seen t) → Outcome (at + 1) t bs (run full (at + 1) t bs)) → Outcome at s (b ∷ bs) (follow full at z (λ t. run full (at + 1) t bs))
    by_step broken e w a ih = no_step at b bs s g f e
    by_step (goes t) e w a ih =
        longer at b s t
        (λ cs T h. subst (λ z. Onward z (λ u. Completes u (spot (at + 1) cs) T)) e (onward at b cs T s h))
        (λ cs T h. backward at b cs T s g (subst (λ z. Onward z (λ u. Completes u (spot (at + 1) cs) T)) (sym e) h))
        bs (run full (at + 1) t bs) (ih t w (subst Fits (sym a) f))
    by_step (begins fs t) e w a ih = by_limit (full fs) refl
      where
        by_limit : (l : Bool) → full fs ≡ l → Outcome at s (b ∷ bs) (cond l (Err (Limit at)) (run full (at + 1) t bs))
        by_limit true q = too_many at b bs s g f fs t w e a.0 a.1 q
        by_limit false q =
            longer at b s t
            (λ cs T h. subst (λ z. Onward z (λ u. Completes u (spot (at + 1) cs) T)) e (onward at b cs T s h))
            (λ cs T h. backward at b cs T s g (subst (λ z. Onward z (λ u. Completes u (spot (at + 1) cs) T)) (sym e) h))
            bs (run full (at + 1) t bs)
            (ih t w (subst Fits (sym a.0) (subst (λ ns. Fits (ns ++ ((at, length fs + 1) ∷ []))) (sym a.1) (fits_more at fs q (subst Fits a.1 f)))))
