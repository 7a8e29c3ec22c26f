-- Lines are refused as underivable only for a line whose roles are there and whose message is well typed.
use Rattle.std.proofs.Common.{◌≡◌, ℕ, suc, ◌+◌, min, Bool, true, false, cond, eqb, leb, ltb, List, [], ◌∷◌, ◌++◌, map, length, Ok, Err, Result, refl, sym, ap, ◌∙◌, append_assoc, append-nil, arith, length-append}
use Rattle.std.specs.List.{list_any}
use Rattle.model.specs.Roles.{start}
use Rattle.syntax.specs.declared.spec.Label.{Label}
use Rattle.syntax.specs.declared.spec.Name.{Name}
use Rattle.syntax.specs.Places.{label_place}
use Rattle.syntax.specs.Specs.{Lined}
use Rattle.terms.specs.Declaring.{bind, principal, with_term}
use Rattle.terms.specs.Scope.{Scope}
use Rattle.terms.specs.Starting.{given_to}
use Rattle.terms.specs.declared.fault.TermFault.{TermFault}
use Rattle.terms.specs.declared.fault.TermFault.TheVariants as faults
use Rattle.terms.specs.declared.limits.Limits.{Limits}
use Rattle.roles.specs.declared.line_fault.LineFault.{LineFault}
use Rattle.roles.specs.declared.line_fault.LineFault.TheVariants.{Limit, Repeated, Underivable}
use Rattle.roles.specs.Labels.{unused, equal_labels}
use Rattle.roles.specs.Playing.{Player}
use Rattle.roles.specs.Refusals.{to_line}
use Rattle.roles.specs.Stages.{Stage, refused_by, place_among, with_role, line, lines}
use Rattle.roles.specs.Starting.{party_in, nobody, started}
use Rattle.roles.specs.TranslationLaw.{no_roles}
use Rattle.roles.proofs.AllLines.{Steps, message_of, from_receiver}
use Rattle.roles.proofs.Outcome.{ended_never}
use Rattle.roles.proofs.Sending.{as_good}

-- a step that does not fail so, and what follows it
pub passed : {A B E : Type 0} (r : Result A E) (f : A → Result B E) (x : E) → (r ≡ Err x → ⊥) → bind r f ≡ Err x → (y : A) × (r ≡ Ok y) × (f y ≡ Err x)
passed (Ok y) f x n e = (y, refl, e)
passed (Err z) f x n e = absurd (n (let p : z ≡ x = cc in ap Err p))

module _ (at name term : ℕ) where
  abbrev underivable : LineFault
  underivable = Underivable at name term

  -- only a message is refused so
  no_term : (e : TermFault) → to_line e ≡ underivable → ⊥
  no_term (faults.Limit p) e = absurd (cc)
  no_term (faults.Undeclared p) e = absurd (cc)
  no_term (faults.WrongType p) e = absurd (cc)
  no_term (faults.NoMemory w) e = absurd (cc)

  no_step : {A : Type 0} (r : Result A TermFault) → refused_by to_line r ≡ Err underivable → ⊥
  no_step (Ok x) e = absurd (cc)
  no_step (Err y) e = no_term y (cc)

  no_repeat : {A : Type 0} (c : Bool) (p : ℕ) (x : A) → cond c (Err (Repeated p)) (Ok x) ≡ Err underivable → ⊥
  no_repeat true p x e = absurd (cc)
  no_repeat false p x e = absurd (cc)

  no_role : (limits : Limits) (text : List ℕ) (n : ℕ) (x : Name) (G : Stage) → with_role limits text n x G ≡ Err underivable → ⊥
  no_role limits text n x G = go (ltb (place_among n G.players) (length G.players)) (leb (min limits.roles 8) (length G.players))
    where
      begins : (r : Result Player LineFault) → (r ≡ Err underivable → ⊥) → bind {B = Stage} r (λ p. Ok (record { scope = G.scope; players = G.players ++ (p ∷ []) })) ≡ Err underivable → ⊥
      begins (Ok p) f e = absurd (cc)
      begins (Err y) f e = f (cc)

      go : (b c : Bool) → cond b (Ok G) (cond c (Err (Limit x.at)) (bind (started limits G.scope n x) (λ p. Ok (record { scope = G.scope; players = G.players ++ (p ∷ []) })))) ≡ Err underivable → ⊥
      go true c e = absurd (cc)
      go false true e = absurd (cc)
      go false false e =
          begins (started limits G.scope n x)
          (ended_never limits 0 x.at (record { name = n; part = x.part; party = party_in G.scope n; role = nobody; rows = [] }) (start (party_in G.scope n) (given_to n G.scope.starts)) at name term) e

  module _ (limits : Limits) (text : List ℕ) where
    -- a line that is refused so is ready
    line_stopped : (n : ℕ) (l : Lined) (G : Stage) → line limits text n l G ≡ Err underivable → Steps limits text l G
    line_stopped n l G e =
        let a = passed (refused_by to_line (principal text G.scope l.sender)) (λ a. bind (with_role limits text a l.sender G) (from_receiver limits text n l G a)) underivable (no_step _) e in
        let s = passed (with_role limits text a.0 l.sender G) (from_receiver limits text n l G a.0) underivable (no_role limits text a.0 l.sender G) a.2 in
        let b = passed (refused_by to_line (principal text s.0.scope l.receiver)) (λ b. cond (eqb b a.0) (Err (Repeated l.receiver.at)) (bind (with_role limits text b l.receiver s.0) (message_of limits text n l G a.0 b))) underivable (no_step _) s.2 in
        apart a.0 b.0 s.0 (as_good to_line _ a.0 a.1) s.1 (as_good to_line _ b.0 b.1) b.2
      where
        two : (a b : ℕ) (H : Stage) → principal text G.scope l.sender ≡ Ok a → with_role limits text a l.sender G ≡ Ok H → principal text H.scope l.receiver ≡ Ok b
            → (c : Bool) → eqb b a ≡ c → cond c (Err (Repeated l.receiver.at)) (bind (with_role limits text b l.receiver H) (message_of limits text n l G a b)) ≡ Err underivable → Steps limits text l G
        two a b H p q r true c e = absurd (cc)
        two a b H p q r false c e =
            let t = passed (with_role limits text b l.receiver H) (message_of limits text n l G a b) underivable (no_role limits text b l.receiver H) e in
            let v = passed (refused_by to_line (with_term text (min limits.terms 512) l.message t.0.scope)) _ underivable (no_step _) t.2 in
            record {
              sender = a;
              receiver = b;
              sent = H;
              met = t.0;
              listed = v.0;
              finds_sender = p;
              starts_sender = q;
              finds_receiver = r;
              two = c;
              starts_receiver = t.1;
              lists = as_good to_line _ v.0 v.1;
            }

        apart : (a b : ℕ) (H : Stage) → principal text G.scope l.sender ≡ Ok a → with_role limits text a l.sender G ≡ Ok H → principal text H.scope l.receiver ≡ Ok b
            → cond (eqb b a) (Err (Repeated l.receiver.at)) (bind (with_role limits text b l.receiver H) (message_of limits text n l G a b)) ≡ Err underivable → Steps limits text l G
        apart a b H p q r = two a b H p q r (eqb b a) refl

    -- lines that come after some
    record StoppedAfter (earlier : List Label) (G : Stage) (ls : List Lined) : Type 0 where
      pub before : List Lined
      pub here : Lined
      pub after : List Lined
      pub split : ls ≡ before ++ (here ∷ after)
      pub stage : Stage
      pub accepted : lines limits text earlier before G ≡ Ok stage
      pub number : ℕ
      pub counted : number ≡ suc (length earlier + length before)
      pub refused : line limits text number here stage ≡ Err underivable
      pub label : unused text (earlier ++ map (λ (x : Lined). x.label) before) here.label ≡ Ok tt

    stopped_after : (ls : List Lined) (earlier : List Label) (G : Stage) → lines limits text earlier ls G ≡ Err underivable → StoppedAfter earlier G ls
    stopped_after [] earlier G e = absurd (cc)
    stopped_after (l ∷ ls) earlier G e = go (line limits text (suc (length earlier)) l G) refl u.2 (λ H. stopped_after ls (earlier ++ (l.label ∷ [])) H)
      where
        u : (y : Unit {0}) × (unused text earlier l.label ≡ Ok y) × (bind (line limits text (suc (length earlier)) l G) (lines limits text (earlier ++ (l.label ∷ [])) ls) ≡ Err underivable)
        u = passed (unused text earlier l.label) (λ _. bind (line limits text (suc (length earlier)) l G) (lines limits text (earlier ++ (l.label ∷ [])) ls)) underivable (no_repeat (list_any (λ a. equal_labels text a l.label) earlier) (label_place l.label) tt) e

        more : (H : Stage) → line limits text (suc (length earlier)) l G ≡ Ok H → StoppedAfter (earlier ++ (l.label ∷ [])) H ls → StoppedAfter earlier G (l ∷ ls)
        more H q s = record {
          before = l ∷ s.before;
          here = s.here;
          after = s.after;
          split = ap (λ xs. l ∷ xs) s.split;
          stage = s.stage;
          accepted =
              ap (λ o. bind o (λ _. bind (line limits text (suc (length earlier)) l G) (lines limits text (earlier ++ (l.label ∷ [])) s.before))) u.1
              ∙ ap (λ o. bind o (lines limits text (earlier ++ (l.label ∷ [])) s.before)) q ∙ s.accepted;
          number = s.number;
          counted = (let n = s.counted in let m = length-append earlier (l.label ∷ []) in omega arith);
          refused = s.refused;
          label = ap (λ bs. unused text bs s.here.label) (sym (append_assoc earlier (l.label ∷ []) (map (λ (x : Lined). x.label) s.before))) ∙ s.label;
        }

        go : (r : Result Stage LineFault) → line limits text (suc (length earlier)) l G ≡ r → bind r (lines limits text (earlier ++ (l.label ∷ [])) ls) ≡ Err underivable
            → ((H : Stage) → lines limits text (earlier ++ (l.label ∷ [])) ls H ≡ Err underivable → StoppedAfter (earlier ++ (l.label ∷ [])) H ls) → StoppedAfter earlier G (l ∷ ls)
        go (Ok H) q f k = more H q (k H f)
        go (Err x) q f k =
            let p : x ≡ underivable = cc in
            record {
              before = [];
              here = l;
              after = ls;
              split = refl;
              stage = G;
              accepted = refl;
              number = suc (length earlier);
              counted = omega arith;
              refused = q ∙ ap Err p;
              label = ap (λ bs. unused text bs l.label) (append-nil earlier) ∙ u.1;
            }

    -- the line for which lines are refused so
    pub record StoppedAt (U : Scope) (ls : List Lined) : Type 0 where
      pub before : List Lined
      pub here : Lined
      pub after : List Lined
      pub split : ls ≡ before ++ (here ∷ after)
      pub stage : Stage
      pub accepted : lines limits text [] before (no_roles U) ≡ Ok stage
      pub ready : Steps limits text here stage
      pub refused : line limits text (suc (length before)) here stage ≡ Err underivable
      pub label : unused text (map (λ (x : Lined). x.label) before) here.label ≡ Ok tt

    pub lines_stopped : (U : Scope) (ls : List Lined) → lines limits text [] ls (no_roles U) ≡ Err underivable → StoppedAt U ls
    lines_stopped U ls e =
        let s = stopped_after ls [] (no_roles U) e in
        let c = s.counted in
        let n : s.number ≡ suc (length s.before) = omega arith in
        let refused = ap (λ k. line limits text k s.here s.stage) (sym n) ∙ s.refused in
        record {
          before = s.before;
          here = s.here;
          after = s.after;
          split = s.split;
          stage = s.stage;
          accepted = s.accepted;
          ready = line_stopped (suc (length s.before)) s.here s.stage refused;
          refused = refused;
          label = s.label;
        }
