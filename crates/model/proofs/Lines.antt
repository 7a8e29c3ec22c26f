-- The lines of a role on sheets: it starts, hears and says; after start and hear nothing is due.
use Rattle.std.proofs.Common.{◌≡◌, ℕ, Bool, true, false, cond, T, ◌⊎◌, List, [], ◌∷◌, ◌++◌, sym, refl, ap, ◌∙◌, subst, inl, inr, append_assoc, append-nil, arith}
use mathlib.Core.Option.{some}
use mathlib.Core.Path.{subst⁻¹}
use Rattle.model.specs.Lists.{Every}
use Rattle.model.specs.Trees.{Tree, leaf, node, Formed}
use Rattle.model.specs.Deduction.{Party, held}
use Rattle.model.specs.Roles.{Act, give, hear, say, Entry, Role, fill, enter, meet, Composed, got, lacks, compose, knows, settled, give_all, start, heard, Said, spoke, failed, say_composed, said}
use Rattle.model.specs.Entries.{Has, AtRest}
use Rattle.model.specs.Keeping.{Done, DoneAt, Inv, Nobody}
use Rattle.model.specs.Runs.{Memory, empty, set}
use Rattle.model.specs.Programs.{nobody_yet, terms, leaves, given}
use Rattle.model.proofs.Lists.{every_map}
use Rattle.model.proofs.Entries.{entry, with_one, held_has, knows_has}
use Rattle.model.proofs.Composing.{AnyTree}
use Rattle.model.proofs.Keeping.{shown_among}
use Rattle.model.proofs.Resting.{settled_rests}
use Rattle.model.proofs.Machine.{no_some, set_same, All}
use Rattle.model.proofs.Sheets.{gives, hears, says, Plan, done, then, plan_append}
use Rattle.model.proofs.Agree.{reads_all}
use Rattle.model.proofs.Grounds.{Explained, Good, good_act, good_meet, meet_next}
use Rattle.model.proofs.Filling.{Grew, grew_none, grew_then, grew_one, grew_meet, good_set, good_fresh, Went, Made, made}
use Rattle.model.proofs.Marked.{None}
use Rattle.model.proofs.Turning.{went_settled}

-- every part that a register is for is known
pub sheet_has : (s : Role) (Γ : Memory) → Good s Γ s.next None → All (λ r t. Has s.known t) Γ
sheet_has s Γ g r t e = let x = g.met r t (g.bound r t e) e in held_has s.known t x.0 x.1

terms_one : (es : List Entry) (e : Entry) → terms (with_one es e) ≡ terms es ++ (e.term ∷ [])
terms_one [] e = refl
terms_one (x ∷ es) e = ap (λ l. x.term ∷ l) (terms_one es e)

pub good_nobody : Good nobody_yet empty 0 None
good_nobody =
    record {
      bound = λ r t e. absurd (no_some e);
      upto = omega arith;
      low = tt;
      ascends = tt;
      once = tt;
      entries = tt;
      met = λ r t h e. absurd (no_some e);
      explained = tt;
      formed = λ r t e. absurd (no_some e);
    }

module _ (P : Party) where
  explained_done : (s : Role) (Γ : Memory) → Good s Γ s.next None → (r : ℕ) (t : Tree) → Explained Γ s.acts r t → Done P s.known t
  explained_done s Γ g r (leaf n) x = tt
  explained_done s Γ g r (node h ts) x = λ u i. reads_all (Has s.known) Γ (sheet_has s Γ g) x.0 ts x.1 u (shown_among P h ts u i)

  pub good_done_at : (s : Role) (Γ : Memory) → Good s Γ s.next None → Every (DoneAt P Nobody s.known) s.known
  good_done_at s Γ g =
      every_map (λ e. T e.settled → None e.at ⊎ Explained Γ s.acts e.at e.term) (DoneAt P Nobody s.known)
      (λ e f c. elim (f c) [ inl x ↦ absurd x | inr y ↦ inr (explained_done s Γ g e.at e.term y) ]) s.known g.explained

  good_inv : (s : Role) (Γ : Memory) → Good s Γ s.next None → Inv P AnyTree AnyTree Nobody s.known s.next
  good_inv s Γ g =
      record { below = g.low; ascends = g.ascends; once = g.once; sound = λ u h. held tt; seen = λ u h. tt; done = good_done_at s Γ g }

  pub settled_at_rest : (s : Role) (Γ : Memory) → Good s Γ s.next None → AtRest P (settled P s)
  settled_at_rest s Γ g = (settled_rests P AnyTree AnyTree (λ h ts i u j. tt) s (good_inv s Γ g)).none_due

  -- to hear
  pub went_heard : (t : Tree) (s : Role) (Γ : Memory) → Good s Γ s.next None → Formed t → Went P s Γ (heard P t s) None (t ∷ []) [] × AtRest P (heard P t s)
  unfolding heard
  went_heard t s Γ g f = (
    record {
      sheet = w.sheet;
      good = w.good;
      grew = grew_then P (grew_then P (grew_one P s s₁ Γ Γ₁ (hear s.next) (t ∷ []) [] refl (hears t)) (grew_meet P s₁ Γ₁ s.next None g₁ t here)) w.grew;
    },
    settled_at_rest s₂ Γ₁ g₂,
  )
    where
      s₁ : Role
      s₁ = fill hear s

      Γ₁ : Memory
      Γ₁ = set Γ s.next t

      here : Γ₁ s.next ≡ some t
      here = set_same Γ s.next t

      g₁ : Good s₁ Γ₁ s.next None
      g₁ = good_set s Γ s.next None g (hear s.next) t f

      s₂ : Role
      s₂ = meet t s.next s₁

      g₂ : Good s₂ Γ₁ s₂.next None
      g₂ = subst⁻¹ (λ k. Good s₂ Γ₁ k None) (meet_next t s.next s₁) (good_meet s₁ Γ₁ s.next None g₁ (omega arith) t here)

      w : Went P s₂ Γ₁ (settled P s₂) None [] []
      w = went_settled P s₂ Γ₁ g₂

  abbrev pub Gave : Role → Memory → Role → Type 0
  Gave s Γ s' = (is : List Tree) × (terms s'.known ≡ terms s.known ++ is) × Went P s Γ s' None is []

  gave_one : (t : Tree) (s : Role) (Γ : Memory) → Good s Γ s.next None → Formed t → Gave s Γ (cond (knows s.known t) s (enter t s.next false (fill give s)))
  gave_one t s Γ g f = go (knows s.known t) (λ x. x) (knows_has s.known t).1
    where
      go : (b : Bool) → (T b → T (knows s.known t)) → (Has s.known t → T b) → Gave s Γ (cond b s (enter t s.next false (fill give s)))
      go true i j = ([], sym (append-nil (terms s.known)), record { sheet = Γ; good = g; grew = grew_none P s Γ })
      go false i j = (
        t ∷ [],
        terms_one s.known (entry t s.next false),
        record {
          sheet = set Γ s.next t;
          good = good_fresh s Γ None g (give s.next) t f j false (λ c. elim c [ ]);
          grew = grew_one P s (enter t s.next false (fill give s)) Γ (set Γ s.next t) (give s.next) (t ∷ []) [] refl (gives t);
        },
      )

  pub gave : (ts : List Tree) (s : Role) (Γ : Memory) → Good s Γ s.next None → Every Formed ts → Gave s Γ (give_all P ts s)
  unfolding give_all
  gave [] s Γ g f = ([], sym (append-nil (terms s.known)), record { sheet = Γ; good = g; grew = grew_none P s Γ })
  gave (t ∷ ts) s Γ g f =
      let a = gave_one t s Γ g f.0 in
      let b = gave ts _ a.2.sheet a.2.good f.1 in (
        a.0 ++ b.0,
        b.1 ∙ ap (λ l. l ++ b.0) a.1 ∙ append_assoc (terms s.known) a.0 b.0,
        record { sheet = b.2.sheet; good = b.2.good; grew = grew_then P a.2.grew b.2.grew },
      )

  pub went_start : (ts : List Tree) → Every Formed ts → Went P nobody_yet empty (start P ts) None (given P ts) [] × AtRest P (start P ts)
  unfolding start
  went_start ts f = (
    record { sheet = w.sheet; good = w.good; grew = subst (λ l. Grew P nobody_yet empty (settled P s₁) w.sheet l []) (append-nil a.0 ∙ sym a.1) (grew_then P a.2.grew w.grew) },
    settled_at_rest s₁ a.2.sheet a.2.good,
  )
    where
      s₁ : Role
      s₁ = give_all P ts nobody_yet

      a : Gave nobody_yet empty s₁
      a = gave ts nobody_yet empty good_nobody f

      w : Went P s₁ a.2.sheet (settled P s₁) None [] []
      w = went_settled P s₁ a.2.sheet a.2.good

  -- to say: the names made, and the register said
  abbrev pub Spoken : (ℕ → Bool) → Role → Memory → Tree → Said → Type 0
  Spoken may_make s Γ t (spoke s') =
      (ns : List ℕ) × (w : Went P s Γ s' None [] ns) × Every (λ n. T (may_make n)) ns
      × (leaves s'.known ≡ leaves s.known ++ ns) × (r : ℕ) × (xs : List Act) × (w.grew.line ≡ xs ++ (say r ∷ [])) × (w.sheet r ≡ some t)
  Spoken may_make s Γ t (failed u) = Unit {0}

  pub went_said : (may_make : ℕ → Bool) (t : Tree) (s : Role) (Γ : Memory) → Good s Γ s.next None → Formed t → Spoken may_make s Γ t (said P may_make t s)
  unfolding said
  went_said may_make t s Γ g f = go (compose P may_make t s) (made P may_make None t s Γ g f)
    where
      go : (c : Composed) → Made P may_make None s Γ t c → Spoken may_make s Γ t (say_composed c)
      go (got s' r) (ns, w, e, sm, ev, lv) = (
        ns,
        record {
          sheet = w.sheet;
          good = good_act s' w.sheet s'.next None w.good (say r) s'.next w.sheet (omega arith) (λ q v x. x) (λ q h. refl) w.good.bound w.good.formed;
          grew = record { line = w.grew.line ++ (say r ∷ []); adds = adds; plan = subst (λ l. Plan P s.next Γ (w.grew.line ++ (say r ∷ [])) s'.next w.sheet [] l) (append-nil ns) (plan_append P w.grew.plan (then (says e) done)) };
        },
        ev,
        lv,
        r,
        w.grew.line,
        refl,
        e,
      )
        where
          adds : s'.acts ++ (say r ∷ []) ≡ s.acts ++ (w.grew.line ++ (say r ∷ []))
          adds = ap (λ l. l ++ (say r ∷ [])) w.grew.adds ∙ append_assoc s.acts w.grew.line (say r ∷ [])
      go (lacks u) m = tt
