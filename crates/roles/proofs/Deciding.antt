-- A line is refused as underivable exactly if its message does not derive.
use Rattle.std.proofs.Common.{◌≡◌, ℕ, zero, suc, ◌<◌, ◌↔◌, min, Bool, true, false, cond, T, ◌||◌, ◌⊎◌, List, [], ◌∷◌, ◌++◌, map, length, get_or, take, drop, Err, sym, refl, ap, ◌∙◌, subst, inl, inr, arith, length-append}
use mathlib.Core.Path.{subst⁻¹}
use Rattle.std.proofs.lemmas.Bool.{eq-eqb, cond-true}
use Rattle.std.proofs.lemmas.List.{length-map, map-append}
use Rattle.model.specs.Lists.{Every}
use Rattle.model.specs.Trees.{Tree, Formed, Within, eq_tree}
use Rattle.model.specs.Blame.{Blame}
use Rattle.model.specs.Deduction.{Party, Derives}
use Rattle.model.specs.Roles.{Role, Said, spoke, failed, said}
use Rattle.model.specs.Lives.{Life, starts, says, Holdings, run}
use Rattle.model.specs.Specifications.{Specification, message, makes, Duty, speak, own_from, own, life_to}
use Rattle.model.specs.ComposingLaw.{Decides}
use Rattle.model.proofs.ComposingLaw.{composing_law}
use Rattle.model.proofs.Duties.{own_lines}
use Rattle.model.proofs.Trees.{eq_tree_is}
use Rattle.syntax.specs.Places.{term_place}
use Rattle.syntax.specs.Specs.{Lined}
use Rattle.terms.specs.Numbering.{tree, has}
use Rattle.terms.specs.Scope.{Scope}
use Rattle.terms.specs.Starting.{made_among}
use Rattle.terms.specs.declared.limits.Limits.{Limits}
use Rattle.terms.proofs.Parts.{within_listed}
use Rattle.terms.proofs.Scopes.{taken}
use Rattle.roles.specs.declared.line_fault.LineFault.TheVariants.{Underivable}
use Rattle.roles.specs.Parties.{makes_of}
use Rattle.roles.specs.Playing.{Player, term_number}
use Rattle.roles.specs.Stages.{Stage, line, message as message_sent}
use Rattle.roles.specs.Specified.{place_in, numbered, names_from, role_names, line_among, starting_terms, specified}
use Rattle.roles.specs.TranslationLaw.{life_before, holds_at, sent_message, DerivesFor, BlamedFor}
use Rattle.roles.proofs.AllLines.{Steps, line_is, Two, two_roles}
use Rattle.roles.proofs.Coming.{came_life}
use Rattle.roles.proofs.Doing.{Did}
use Rattle.roles.proofs.Outcome.{Unsaid, not_said, was_not_said}
use Rattle.roles.proofs.RoleNames.{place_kept}
use Rattle.roles.proofs.Sending.{own_then, sent, made}
use Rattle.roles.proofs.SoFar.{all, modelled, doings, SoFar, counted, placed}

-- a line behind others is refused as underivable: with a place, the number of a role, and the number of a term
abbrev pub Refuses : Limits → List ℕ → List Lined → Lined → Stage → ℕ → ℕ → ℕ → Type 0
Refuses limits text before l G at role term = line limits text (suc (length before)) l G ≡ Err (Underivable at role term)

-- so it is exactly if the message does not derive for its sender; the fault has the message's place, the sender's number in the order of roles, and the number of the
-- term that is to blame, which stands within the message and does not derive either
pub record Decided (limits : Limits) (text : List ℕ) (U : Scope) (before : List Lined) (l : Lined) (G : Stage) (m : Steps limits text l G) : Type 0 where
  pub sends : numbered text U l.sender ≡ m.sender
  pub exactly : ((at role term : ℕ) × Refuses limits text before l G at role term) ↔ (¬ DerivesFor text U before l m.sender (sent_message text U before l))
  pub derives : (¬ ((at role term : ℕ) × Refuses limits text before l G at role term)) → DerivesFor text U before l m.sender (sent_message text U before l)
  pub places : (at role term : ℕ) → Refuses limits text before l G at role term → (at ≡ term_place l.message) × (role ≡ place_in m.sender (role_names text U (before ++ (l ∷ []))))
  pub fails :
      (at role term : ℕ) (none : Tree) → Refuses limits text before l G at role term
      → (¬ DerivesFor text U before l m.sender (get_or m.listed.terms term none)) × Within (get_or m.listed.terms term none) (sent_message text U before l)
  pub first : (at role term : ℕ) (none : Tree) → Refuses limits text before l G at role term → BlamedFor text U before l m.sender (get_or m.listed.terms term none)

-- a listed term stands at its number
at_number : (u : Tree) (us : List Tree) (d : Tree) → has u us ≡ true → get_or us (term_number u us) d ≡ u
at_number u [] d h = absurd (cc)
at_number u (v ∷ us) d h = go (eq_tree u v) (eq_tree_is u v) (at_number u us d) h
  where
    go : (b : Bool) → (T b → u ≡ v) → (has u us ≡ true → get_or us (term_number u us) d ≡ u) → (b || has u us) ≡ true
        → get_or (v ∷ us) (cond b zero (suc (term_number u us))) d ≡ u
    go true e f h = sym (e tt)
    go false e f h = f h

first_lines : (text : List ℕ) (U : Scope) (ns : List ℕ) (xs ys : List Lined) → take (length xs) (map (line_among text U ns) (xs ++ ys)) ≡ map (line_among text U ns) xs
first_lines text U ns [] ys = refl
first_lines text U ns (x ∷ xs) ys = ap (λ ls. line_among text U ns x ∷ ls) (first_lines text U ns xs ys)

-- from deciding a say to deciding what comes of it
module _ (P : Party) (L : Life) (s : Role) (mk : ℕ → Bool) (t : Tree) (d : Decides P L s mk t) (Z : Type 0) (refused : (u : Tree) → said P mk t s ≡ failed u → Z)
    (because : Z → (u : Tree) × (said P mk t s ≡ failed u)) where
  pub refused_or_derives : Z ⊎ Derives P (Holdings (says L mk t)) t
  refused_or_derives = go (said P mk t s) refl
    where
      go : (x : Said) → said P mk t s ≡ x → Z ⊎ Derives P (Holdings (says L mk t)) t
      go (spoke s') e = inr (d.succeeds.0 (s', e))
      go (failed u) e = inl (refused u e)

  pub refused_exactly : Z ↔ (¬ Derives P (Holdings (says L mk t)) t)
  refused_exactly = (
    (λ z x. let b = because z in let y = d.succeeds.1 x in unlike (sym b.1 ∙ y.1)),
    λ n. elim refused_or_derives [ inl z ↦ z | inr x ↦ absurd (n x) ],
  )
    where
      unlike : {u : Tree} {s' : Role} → failed u ≡ spoke s' → ⊥
      unlike e = absurd (cc)

module _ (limits : Limits) (text : List ℕ) (U : Scope) (before : List Lined) (l : Lined) (formed : Every Formed (starting_terms text U))
    (G : Stage) (h : SoFar text U (before ++ (l ∷ [])) before (all text U before) G) (m : Steps limits text l G) where
  abbrev ls : List Lined
  ls = before ++ (l ∷ [])

  abbrev S : Specification
  S = specified text U ls

  abbrev k : ℕ
  k = suc (length before)

  abbrev both : List ℕ
  both = names_from text U (all text U before) (l ∷ [])

  two : Two limits text U ls formed before [] l (all text U before) G m
  two = two_roles limits text U ls formed before [] l refl (all text U before) refl G h m

  abbrev from : ℕ
  from = place_in (numbered text U l.sender) both

  abbrev to : ℕ
  to = place_in (numbered text U l.receiver) both

  abbrev nobody : Player
  nobody = record { name = 0; part = record { at = 0; len = 0 }; party = S.party 0; role = record { known = []; next = 0; acts = [] }; rows = [] }

  abbrev p : Player
  p = get_or m.met.players from nobody

  from_in : from < length m.met.players
  from_in = let c = counted text U ls before both m.met two.so_far in let i = two.sender_placed in omega arith

  is_role : from < S.roles
  is_role =
      let i = two.sender_placed in
      let n = length-append both two.rest in
      let w = ap length two.others in
      omega arith

  sender_is : place_in (numbered text U l.sender) (all text U ls) ≡ from
  sender_is = ap (place_in (numbered text U l.sender)) two.others ∙ place_kept (numbered text U l.sender) both two.rest two.sender_placed

  place_same : from ≡ place_in m.sender (role_names text U ls)
  place_same = sym sender_is ∙ ap (λ a. place_in a (all text U ls)) two.sends

  outcome : line limits text k l G ≡ message_sent limits text k l.message from to m.met
  outcome =
      line_is limits text k l G m
      ∙ (λ i. message_sent limits text k l.message
      ((placed text U ls before both m.met two.so_far m.sender ∙ ap (λ c. place_in c both) (sym two.sends)) i)
      ((placed text U ls before both m.met two.so_far m.receiver ∙ ap (λ c. place_in c both) (sym two.receives)) i) m.met)

  did : Did S from (doings text U ls from before) p
  did = (two.so_far).did from nobody two.sender_placed

  abbrev done : List Duty
  done = own_from S from 1 (modelled text U ls before)

  own_is : own S from ≡ done ++ (speak k (makes S k) ∷ [])
  own_is =
      ap (own_from S from 1) (map-append (line_among text U (all text U ls)) before (l ∷ []))
      ∙ own_then S from 1 k (modelled text U ls before) (line_among text U (all text U ls) l) (let n = length-map before (line_among text U (all text U ls)) in omega arith)
      ∙ ap (λ ds. done ++ ds) (cond-true _ _ _ (eq-eqb from (place_in (numbered text U l.sender) (all text U ls)) (sym sender_is)))

  decides : Decides (S.party from) (life_before S from (length before)) p.role (makes S k) (message S k)
  unfolding run
  decides =
      subst⁻¹ (λ xs. Decides (S.party from) (life_to S from (own_from S from 1 xs)) p.role (makes S k) (message S k)) (first_lines text U (all text U ls) before (l ∷ []))
      (composing_law S from is_role done [] k own_is p.role
      (came_life S (S.party from) done (starts (S.knows from)) did.came.0 p.role (own_lines S from 1 (modelled text U ls before)) did.came.1 did.came.2))

  sent_is : tree text m.met.scope.names l.message ≡ message S k
  sent_is = sent text U ls before [] l refl both two.rest two.others m.met two.so_far

  said_same : said p.party (makes_of (made_among m.listed.names (drop (length m.met.scope.terms) m.listed.terms))) (tree text m.met.scope.names l.message) p.role ≡ said (S.party from) (makes S k) (message S k) p.role
  said_same = λ i. said (did.party i)
      (made text U ls before [] l refl both two.rest two.others m.met two.so_far two.sender_placed two.receiver_placed two.apart limits m.listed m.lists i) (sent_is i) p.role

  abbrev Refused : Type 0
  Refused = (at name term : ℕ) × (line limits text k l G ≡ Err (Underivable at name term))

  refused : (u : Tree) → said (S.party from) (makes S k) (message S k) p.role ≡ failed u → Refused
  refused u e = (_, _, _, outcome ∙ not_said limits text k from to l.message m.met m.listed m.lists nobody u from_in (said_same ∙ e))

  because : (at name term : ℕ) → line limits text k l G ≡ Err (Underivable at name term) → Unsaid limits k (term_place l.message) from m.listed.terms (said (S.party from) (makes S k) (message S k) p.role) at name term
  because at name term e =
      subst (λ o. Unsaid limits k (term_place l.message) from m.listed.terms o at name term) said_same
      (was_not_said limits text k from to l.message m.met m.listed m.lists nobody at name term (sym outcome ∙ e))

  abbrev DerivesAt : ℕ → Tree → Type 0
  DerivesAt r u = Derives (S.party r) (holds_at S r (length before)) u

  fails : (at name term : ℕ) (none : Tree) → line limits text k l G ≡ Err (Underivable at name term)
      → (¬ DerivesAt from (get_or m.listed.terms term none)) × Within (get_or m.listed.terms term none) (message S k)
  fails at name term none e =
      let b = because at name term e in
      let f = decides.fails b.lacked b.is in
      let w = taken text (min limits.terms 512) l.message m.met.scope m.listed m.lists in
      let i = within_listed text m.met.scope.names (min limits.terms 512) b.lacked l.message m.met.scope.terms m.listed.terms w.read_well (subst⁻¹ (λ t. Within b.lacked t) sent_is f.1) in
      subst⁻¹ (λ u. (¬ DerivesAt from u) × Within u (message S k)) (ap (λ n. get_or m.listed.terms n none) b.term ∙ at_number b.lacked m.listed.terms none i) f

  abbrev BlamedAt : ℕ → Tree → Type 0
  BlamedAt r u = Blame (S.party r) (holds_at S r (length before)) (message S k) u

  first : (at name term : ℕ) (none : Tree) → line limits text k l G ≡ Err (Underivable at name term) → BlamedAt from (get_or m.listed.terms term none)
  first at name term none e =
      let b = because at name term e in
      let f = decides.fails b.lacked b.is in
      let w = taken text (min limits.terms 512) l.message m.met.scope m.listed m.lists in
      let i = within_listed text m.met.scope.names (min limits.terms 512) b.lacked l.message m.met.scope.terms m.listed.terms w.read_well (subst⁻¹ (λ t. Within b.lacked t) sent_is f.1) in
      subst⁻¹ (BlamedAt from) (ap (λ n. get_or m.listed.terms n none) b.term ∙ at_number b.lacked m.listed.terms none i) (decides.first b.lacked b.is)

  pub decided : Decided limits text U before l G m
  decided = record {
    sends = two.sends;
    exactly = subst (λ r. Refused ↔ (¬ DerivesAt r (message S k))) place_same (refused_exactly _ _ _ _ _ decides Refused refused why);
    derives = λ n. subst (λ r. DerivesAt r (message S k)) place_same (elim (refused_or_derives _ _ _ _ _ decides Refused refused why) [ inl z ↦ absurd (n z) | inr d ↦ d ]);
    places = λ at name term e. let b = because at name term e in (b.place, b.role ∙ place_same);
    fails = λ at name term none e.
        subst (λ r. (¬ DerivesAt r (get_or m.listed.terms term none)) × Within (get_or m.listed.terms term none) (message S k)) place_same (fails at name term none e);
    first = λ at name term none e. subst (λ r. BlamedAt r (get_or m.listed.terms term none)) place_same (first at name term none e);
  }
    where
      why : Refused → (u : Tree) × (said (S.party from) (makes S k) (message S k) p.role ≡ failed u)
      why z = let b = because z.0 z.1 z.2 z.3 in (b.lacked, b.is)
