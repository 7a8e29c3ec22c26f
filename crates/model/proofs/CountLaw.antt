-- The law of counts, proved: settling, starting, hearing and saying keep to the declared counts.
use Rattle.std.proofs.Common.{◌≡◌, ℕ, zero, suc, ◌<◌, Bool, true, false, cond, T, eqb, ltb, List, [], ◌∷◌, ◌++◌, map, refl, subst, ltb→lt}
use mathlib.Core.Option.{Option, none as nothing, some}
use mathlib.Core.Path.{subst⁻¹}
use Rattle.model.specs.Lists.{Every, rest_of}
use Rattle.model.specs.Trees.{Head, tupled, crypted, applied, Tree, leaf, node, Trees, none, more}
use Rattle.model.specs.Deduction.{Party}
use Rattle.model.specs.Roles.{Act, give, hear, say, same, make, split, unlock, Entry, Role, fill, enter, Composed, got, lacks, ComposedAll, got_all, lacks_one, compose, compose_all, none_made, knows, count, mark, marked, first_due, open_parts, open_text, check_again, settle_node, settle, settle_all, unsettled, settled, give_all, start, heard, Said, spoke, failed, say_composed, said}
use Rattle.model.specs.Lives.{spoken}
use Rattle.model.specs.Specifications.{Line, Specification, message_at, message, makes, Duty, begin, speak, listen, own_from, own, duties}
use Rattle.model.specs.Programs.{nobody_yet, next_role, line, Stage, turn_of, stage, stages_from, line_of, rows_of, program}
use Rattle.model.specs.CountLaw.{Parts, Declared, Counted, CountsKept, CountLaw}
use Rattle.model.proofs.Marking.{is_every}
use Rattle.model.proofs.Resting.{FirstDue, first_is}
use Rattle.model.proofs.Machine.{some_inj, no_some}
use Rattle.model.proofs.Counting.{TermCounted, Counts, one_more, acted, filled, entered, met, met_all, After, AfterAll, composed, composed_all}

every_rest : (Q : Act → Type 0) (xs ys : List Act) → Every Q ys → Every Q (rest_of xs ys)
every_rest Q [] ys h = h
every_rest Q (x ∷ xs) [] h = tt
every_rest Q (x ∷ xs) (y ∷ ys) h = every_rest Q xs ys h.1

every_rows : (Q : Act → Type 0) (l : ℕ) (xs : List Act) (ys : List (ℕ × Act)) → Every Q xs → Every (λ x. Q x.1) ys → Every (λ x. Q x.1) (map (λ a. (l, a)) xs ++ ys)
every_rows Q l [] ys h k = k
every_rows Q l (a ∷ xs) ys h k = (h.0, every_rows Q l xs ys h.1 k)

module _ (A : ℕ → ℕ) where
  module _ (P : Party) where
    mark_terms : (r : ℕ) (es : List Entry) → Every (TermCounted A) es → Every (TermCounted A) (mark r es)
    mark_terms r [] h = tt
    mark_terms r (e ∷ es) h = (h.0, mark_terms r es h.1)

    opened : (r : ℕ) (h : Head) (ts : Trees) (s : Role) → Declared A (node h ts) → Counts A s → Counts A (open_parts P r h ts s)
    unfolding open_parts
    opened r h ts s d k =
        met_all A ts s.next _ d.1 (record { terms = k.terms; acts = one_more A (split s.next (count ts) h r) s.acts d.0 k.acts })

    text_opened : (r : ℕ) (t : Tree) (c : Composed) (s : Role) → Declared A t → After A c → Counts A s → Counts A (open_text P r t c s)
    unfolding open_text
    text_opened r t (got s' q) s d a k = met A t s'.next (fill (λ x. unlock x r q) s') d (filled A (λ x. unlock x r q) s' tt a)
    text_opened r t (lacks u) s d a k = k

    checked : (r : ℕ) (h : Head) (ts : Trees) (c : ComposedAll) (s : Role) → Parts A h (count ts) → AfterAll A ts c → Counts A s → Counts A (check_again P r h c s)
    unfolding check_again
    checked r h ts (got_all s' rs) s d a k =
        acted A (same s'.next r) (fill (λ x. make x h rs) s') tt (filled A (λ x. make x h rs) s' (subst⁻¹ (Parts A h) a.1 d) a.0)
    checked r h ts (lacks_one u) s d a k = k

    node_settled : (r : ℕ) (h : Head) (ts : Trees) (s : Role) → Declared A (node h ts) → Counts A s → Counts A (settle_node P r h ts s)
    unfolding settle_node
    node_settled r tupled ts s d k = opened r tupled ts s d k
    node_settled r (applied f) ts s d k = go (P.one_way f)
      where
        go : (b : Bool) → Counts A (cond b (check_again P r (applied f) (compose_all P none_made ts s) s) (open_parts P r (applied f) ts s))
        go true = checked r (applied f) ts (compose_all P none_made ts s) s d.0 (composed_all A P none_made ts s d.1 k) k
        go false = opened r (applied f) ts s d k
    node_settled r crypted none s d k = k
    node_settled r crypted (more t none) s d k = k
    node_settled r crypted (more t (more q none)) s d k =
        text_opened r t (compose P none_made q s) s d.1.0 (composed A P none_made q s d.1.1.0 k) k
    node_settled r crypted (more t (more q (more u us))) s d k = k

    entry_settled : (e : Entry) (s : Role) → Declared A e.term → Counts A s → Counts A (settle P e s)
    unfolding settle
    entry_settled e s d k = go e.term d
      where
        go : (t : Tree) → Declared A t → Counts A (elim t [ leaf n ↦ s | node h ts ↦ settle_node P e.at h ts (marked e.at s) ])
        go (leaf n) d = k
        go (node h ts) d = node_settled e.at h ts (marked e.at s) d (record { terms = mark_terms e.at s.known k.terms; acts = k.acts })

    all_settled : (n : ℕ) (s : Role) → Counts A s → Counts A (settle_all P n s)
    unfolding settle_all
    all_settled zero s k = k
    all_settled (suc n) s k = go (first_due P s.known s.known) (first_is P s.known s.known) (all_settled n)
      where
        go : (o : Option Entry) → FirstDue P s.known s.known o → ((s' : Role) → Counts A s' → Counts A (settle_all P n s'))
            → Counts A (elim o [ nothing ↦ s | some e ↦ settle_all P n (settle P e s) ])
        go nothing f g = k
        go (some e) f g = g (settle P e s) (entry_settled e s (is_every (TermCounted A) s.known e k.terms f.0) k)

    settled_counts : (s : Role) → Counts A s → Counts A (settled P s)
    unfolding settled
    settled_counts s k = all_settled (unsettled P s.known) s k

    gave_one : (t : Tree) (s : Role) → Declared A t → Counts A s → (b : Bool) → Counts A (cond b s (enter t s.next false (fill give s)))
    gave_one t s d k true = k
    gave_one t s d k false = entered A t s.next false (fill give s) d (filled A give s tt k)

    gave : (ts : List Tree) (s : Role) → Every (Declared A) ts → Counts A s → Counts A (give_all P ts s)
    unfolding give_all
    gave [] s d k = k
    gave (t ∷ ts) s d k = gave ts _ d.1 (gave_one t s d.0 k (knows s.known t))

    start_counts : (ts : List Tree) → Every (Declared A) ts → Counts A (start P ts)
    unfolding start
    start_counts ts d = settled_counts _ (gave ts nobody_yet d (record { terms = tt; acts = tt }))

    heard_counts : (t : Tree) (s : Role) → Declared A t → Counts A s → Counts A (heard P t s)
    unfolding heard
    heard_counts t s d k = settled_counts _ (met A t s.next (fill hear s) d (filled A hear s tt k))

    abbrev Spoken : Said → Type 0
    Spoken (spoke s) = Counts A s
    Spoken (failed u) = Unit {0}

    said_counts : (may_make : ℕ → Bool) (t : Tree) (s : Role) → Declared A t → Counts A s → Spoken (said P may_make t s)
    unfolding said
    said_counts may_make t s d k = go (compose P may_make t s) (composed A P may_make t s d k)
      where
        go : (c : Composed) → After A c → Spoken (say_composed c)
        go (got s' r) a = acted A (say r) s' tt a
        go (lacks u) a = tt

    -- a duty whose terms keep to the counts
    abbrev pub DutyCounted : (ℕ → Tree) → Duty → Type 0
    DutyCounted term (begin ts) = Every (Declared A) ts
    DutyCounted term (speak l mk) = Declared A (term l)
    DutyCounted term (listen l) = Declared A (term l)

    pub next_counts : (term : ℕ → Tree) (d : Duty) (s s' : Role) → DutyCounted term d → next_role term P d s ≡ some s' → Counts A s → Counts A s'
    next_counts term (begin ts) s s' c e k = subst (Counts A) (some_inj e) (start_counts ts c)
    next_counts term (listen l) s s' c e k = subst (Counts A) (some_inj e) (heard_counts (term l) s c k)
    next_counts term (speak l mk) s s' c e k = go (said P mk (term l) s) (said_counts mk (term l) s c k) e
      where
        go : (x : Said) → Spoken x → spoken x ≡ some s' → Counts A s'
        go (spoke u) a q = subst (Counts A) (some_inj q) a
        go (failed u) a q = absurd (no_some q)

    stages_counts : (term : ℕ → Tree) (ds : List Duty) (s : Role) → Every (DutyCounted term) ds → Counts A s → Every (λ x. Counted A x.1) (rows_of (stages_from term P s ds))
    stages_counts term [] s c k = tt
    stages_counts term (d ∷ ds) s c k = go (next_role term P d s) refl (λ s'. stages_counts term ds s' c.1)
      where
        go : (o : Option Role) → next_role term P d s ≡ o → ((s' : Role) → Counts A s' → Every (λ x. Counted A x.1) (rows_of (stages_from term P s' ds)))
            → Every (λ x. Counted A x.1) (rows_of (elim o as (λ x. List Stage) [ some s' ↦ stage term P d s s' ∷ stages_from term P s' ds | nothing ↦ [] ]))
        go nothing e f = tt
        go (some s') e f =
            let k' = next_counts term d s s' c.0 e k in
            every_rows (Counted A) (line_of (turn_of d)) (line s s') (rows_of (stages_from term P s' ds)) (every_rest (Counted A) s.acts s'.acts k'.acts) (f s' k')

  pub nobody_counts : Counts A nobody_yet
  nobody_counts = record { terms = tt; acts = tt }

  -- every message, and so every duty
  message_counted : (xs : List Line) (k : ℕ) → Every (λ x. Declared A x.message) xs → Declared A (message_at xs k)
  message_counted [] k h = (tt, tt)
  message_counted (x ∷ xs) zero h = h.0
  message_counted (x ∷ xs) (suc k) h = message_counted xs k h.1

  module _ (S : Specification) (kept : CountsKept A S) where
    pub any_message : (l : ℕ) → Declared A (message S l)
    any_message zero = (tt, tt)
    any_message (suc k) = message_counted S.lines k kept.lines

    own_counted : (P : Party) (r l : ℕ) (xs : List Line) → Every (DutyCounted P (message S)) (own_from S r l xs)
    own_counted P r l [] = tt
    own_counted P r l (x ∷ xs) = go (eqb r x.sender) (eqb r x.receiver) (own_counted P r (suc l) xs)
      where
        rest : List Duty
        rest = own_from S r (suc l) xs

        go : (a b : Bool) → Every (DutyCounted P (message S)) rest
            → Every (DutyCounted P (message S)) (cond a (speak l (makes S l) ∷ rest) (cond b (listen l ∷ rest) rest))
        go true b h = (any_message l, h)
        go false true h = (any_message l, h)
        go false false h = h

    pub duties_counted : (P : Party) (r : ℕ) → Every (DutyCounted P (message S)) (duties S r)
    duties_counted P r = go (ltb r S.roles) (ltb→lt r S.roles)
      where
        go : (b : Bool) → (T b → r < S.roles) → Every (DutyCounted P (message S)) (cond b (begin (S.knows r) ∷ own S r) [])
        go true f = (kept.starts r (f tt), own_counted P r 1 S.lines)
        go false f = tt

    program_counts : (r : ℕ) → Every (λ x. Counted A x.1) (program S r)
    program_counts r = stages_counts (S.party r) (message S) (duties S r) nobody_yet (duties_counted (S.party r) r) nobody_counts

pub count_law : CountLaw
count_law A S kept r = program_counts A S kept r
