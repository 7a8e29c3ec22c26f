-- A line is ready exactly if it passes the steps before its message is said.
use Rattle.std.proofs.Common.{◌≡◌, ℕ, ◌<◌, min, Bool, true, false, cond, eqb, leb, ltb, List, [], ◌∷◌, ◌++◌, length, Some, None, Ok, Err, Option, Result, sym, refl, ap, ap₂, ◌∙◌, subst, arith}
use native.Mathlib.Decide.{dec_lt}
use mathlib.Core.Path.{subst⁻¹}
use Rattle.std.proofs.lemmas.Bool.{leb-false, ltb-false, lt-ltb, le-ltb, lt-leb, eqb-true, eq-eqb, cond-true, cond-false, or_parts, or_from, false_from_ne_true}
use Rattle.std.proofs.lemmas.List.{length-map, map-append}
use Rattle.model.specs.Lists.{Every}
use Rattle.syntax.specs.declared.spec.Name.{Name}
use Rattle.syntax.specs.Specs.{Lined}
use Rattle.terms.specs.declared.declarations.Meaning.{Meaning}
use Rattle.terms.specs.declared.declarations.Meaning.TheVariants.{Value, Function}
use Rattle.terms.specs.declared.declarations.ValueType.TheVariants.{Number, Principal}
use Rattle.terms.specs.declared.limits.Limits.{Limits}
use Rattle.terms.specs.Consistency.{Defined}
use Rattle.terms.specs.Declaring.{bind, principal, party_number, with_terms, with_term}
use Rattle.terms.specs.Numbering.{read}
use Rattle.terms.specs.Scope.{Scope, number_of, meaning_of}
use Rattle.terms.specs.Typing.{and_then, typed}
use Rattle.terms.proofs.Scopes.{taken}
use Rattle.terms.proofs.TermTypes.{typing_law}
use Rattle.roles.specs.declared.line_fault.LineFault.{LineFault}
use Rattle.roles.specs.declared.line_fault.LineFault.TheVariants.{Limit}
use Rattle.roles.specs.Labels.{equal_labels}
use Rattle.roles.specs.LineReadiness.{IsPrincipal, begun, MayStand, names_of, terms_with, Ready}
use Rattle.roles.specs.Playing.{Player, over}
use Rattle.roles.specs.Specified.{place_in, with_number}
use Rattle.roles.specs.Stages.{Stage, with_role, place_among}
use Rattle.roles.specs.Starting.{party_in, nobody, started}
use Rattle.roles.proofs.AllLines.{Steps}
use Rattle.roles.proofs.Changing.{place_is}
use Rattle.roles.proofs.Doing.{after}
use Rattle.roles.proofs.FewParts.{AtMostEight}
use Rattle.roles.proofs.MessageTerms.{was_read, is_read}
use Rattle.roles.proofs.RoleNames.{number_there, number_new}

-- a principal
module _ (text : List ℕ) (S : Scope) (x : Name) (n : ℕ) where
  is_principal : IsPrincipal text S x n → principal text S x ≡ Ok n
  is_principal w = ap₂ (party_number x) w.number w.means

  was_principal : principal text S x ≡ Ok n → IsPrincipal text S x n
  was_principal e = go (number_of text S.names x.part) (meaning_of text S.names x.part) refl refl e
    where
      go : (o : Option ℕ) (m : Option Meaning) → number_of text S.names x.part ≡ o → meaning_of text S.names x.part ≡ m → party_number x o m ≡ Ok n → IsPrincipal text S x n
      go None m p q e = absurd (cc)
      go (Some k) None p q e = absurd (cc)
      go (Some k) (Some (Value Number shared)) p q e = absurd (cc)
      go (Some k) (Some (Value Principal shared)) p q e = let s : k ≡ n = cc in record { number = p ∙ ap Some s; shared = shared; means = q }
      go (Some k) (Some (Function f)) p q e = absurd (cc)

-- a role that stands there, or starts
module _ (limits : Limits) (text : List ℕ) (n : ℕ) (x : Name) (G : Stage) where
  abbrev before_start : Player
  before_start = record { name = n; part = x.part; party = party_in G.scope n; role = nobody; rows = [] }

  abbrev first : Player
  first = after 0 before_start (begun G.scope n)

  abbrev with_first : Stage
  with_first = record { scope = G.scope; players = G.players ++ (first ∷ []) }

  placed : place_among n G.players ≡ place_in n (names_of G)
  placed = place_is n G.players

  many : length (names_of G) ≡ length G.players
  many = length-map G.players (λ (p : Player). p.name)

  pub record Entered (H : Stage) : Type 0 where
    pub scope : H.scope ≡ G.scope
    pub names : names_of H ≡ with_number n (names_of G)
    pub stands : MayStand limits G.scope (names_of G) n

  abbrev starts : Result Stage LineFault
  starts = bind (started limits G.scope n x) (λ p. Ok (record { scope = G.scope; players = G.players ++ (p ∷ []) }))

  abbrev new_role : Result Stage LineFault
  new_role = cond (leb (min limits.roles 8) (length G.players)) (Err (Limit x.at)) starts

  module _ (i : place_in n (names_of G) < length (names_of G)) where
    there : with_role limits text n x G ≡ Ok G
    there = let p = placed in let m = many in cond-true _ _ _ (lt-ltb (place_among n G.players) (length G.players) (omega arith))

  module _ (i : ¬ (place_in n (names_of G) < length (names_of G))) where
    not_there : with_role limits text n x G ≡ new_role
    not_there = let p = placed in let m = many in cond-false _ _ _ (le-ltb (place_among n G.players) (length G.players) (omega arith))

    names_with : names_of with_first ≡ with_number n (names_of G)
    names_with = map-append (λ (p : Player). p.name) G.players (first ∷ []) ∙ sym (number_new n (names_of G) (omega arith))

  -- it enters
  pub enters : MayStand limits G.scope (names_of G) n → (H : Stage) × (with_role limits text n x G ≡ Ok H)
  enters h = go (dec_lt (place_in n (names_of G)) (length (names_of G)))
    where
      go : Dec (place_in n (names_of G) < length (names_of G)) → (H : Stage) × (with_role limits text n x G ≡ Ok H)
      go (yes i) = (G, there i)
      go (no i) =
          let s = h i in
          let r = s.room in
          let m = many in (
            with_first,
            not_there i ∙ cond-false _ _ _ (lt-leb (min limits.roles 8) (length G.players) (omega arith))
                ∙ ap (λ b. bind (cond b (Err (Limit x.at)) (Ok first)) (λ p. Ok (record { scope = G.scope; players = G.players ++ (p ∷ []) })))
                (or_from (ltb (min limits.registers 512) (begun G.scope n).next) (ltb (min limits.actions 4096) (length (begun G.scope n).acts))
                (le-ltb (min limits.registers 512) (begun G.scope n).next s.registers) (le-ltb (min limits.actions 4096) (length (begun G.scope n).acts) s.actions)),
          )

  pub entered : (H : Stage) → with_role limits text n x G ≡ Ok H → Entered H
  entered H e = go (dec_lt (place_in n (names_of G)) (length (names_of G)))
    where
      within : (b : Bool) → over limits (begun G.scope n) ≡ b → bind (cond b (Err (Limit x.at)) (Ok first)) (λ p. Ok (record { scope = G.scope; players = G.players ++ (p ∷ []) })) ≡ Ok H
          → (over limits (begun G.scope n) ≡ false) × (with_first ≡ H)
      within true q e = absurd (cc)
      within false q e = (q, cc)

      room : (i : ¬ (place_in n (names_of G) < length (names_of G))) → (b : Bool) → leb (min limits.roles 8) (length G.players) ≡ b → cond b (Err (Limit x.at)) starts ≡ Ok H → Entered H
      room i true q e = absurd (cc)
      room i false q e =
          let w = within (over limits (begun G.scope n)) refl e in
          let o = or_parts (ltb (min limits.registers 512) (begun G.scope n).next) (ltb (min limits.actions 4096) (length (begun G.scope n).acts)) w.0 in
          let r = leb-false (min limits.roles 8) (length G.players) q in
          let m = many in
          record {
            scope = ap (λ (z : Stage). z.scope) (sym w.1);
            names = ap names_of (sym w.1) ∙ names_with i;
            stands = λ j. record {
              room = omega arith;
              registers = ltb-false (min limits.registers 512) (begun G.scope n).next o.0;
              actions = ltb-false (min limits.actions 4096) (length (begun G.scope n).acts) o.1;
            };
          }

      go : Dec (place_in n (names_of G) < length (names_of G)) → Entered H
      go (yes i) =
          let f = sym (there i) ∙ e in
          let p : G ≡ H = cc in
          record { scope = ap (λ (z : Stage). z.scope) (sym p); names = ap names_of (sym p) ∙ sym (number_there n (names_of G) i); stands = λ j. absurd (j i) }
      go (no i) = room i (leb (min limits.roles 8) (length G.players)) refl (sym (not_there i) ∙ e)

-- a line
module _ (limits : Limits) (text : List ℕ) (before : List Lined) (l : Lined) (G : Stage) (d : Defined G.scope.names (length G.scope.functions)) where
  abbrev most : ℕ
  most = min limits.terms 512

  -- the words are what the steps need
  pub is_ready : (m : Steps limits text l G) → Every (λ (x : Lined). equal_labels text x.label l.label ≡ false) before
      → (r : Ready limits text before l G) × (r.sender ≡ m.sender) × (m.listed.terms ≡ terms_with text l.message G)
  is_ready m h =
      let a = entered limits text m.sender l.sender G m.sent m.starts_sender in
      let b = entered limits text m.receiver l.receiver m.sent m.met m.starts_receiver in
      let same : m.met.scope ≡ G.scope = b.scope ∙ a.scope in
      let t = taken text most l.message m.met.scope m.listed m.lists in
      let typed_here : typed text G.scope l.message Number ≡ Ok tt = ap (λ S. typed text S l.message Number) (sym same) ∙ t.typed_well in
      let read_here : read text G.scope.names most l.message G.scope.terms ≡ Ok m.listed.terms = ap (λ (S : Scope). read text S.names most l.message S.terms) (sym same) ∙ t.read_well in
      let w = was_read text G.scope.names most l.message G.scope.terms m.listed.terms read_here in (
        record {
          label = h;
          sender = m.sender;
          receiver = m.receiver;
          sends = was_principal text G.scope l.sender m.sender m.finds_sender;
          receives = was_principal text G.scope l.receiver m.receiver (ap (λ S. principal text S l.receiver) (sym a.scope) ∙ m.finds_receiver);
          two = λ e. unlike (sym (eq-eqb m.receiver m.sender (sym e)) ∙ m.two);
          sender_stands = a.stands;
          receiver_stands = subst (λ ns. MayStand limits G.scope ns m.receiver) a.names (subst (λ S. MayStand limits S (names_of m.sent) m.receiver) a.scope b.stands);
          typed = ((typing_law text G.scope d).good l.message Number).0 typed_here;
          terms = subst (λ vs. (k : ℕ) → ¬ (k < length G.scope.terms) → k < length vs → k < most) w.is w.below;
        },
        refl,
        w.is,
      )
    where
      unlike : true ≡ false → ⊥
      unlike e = absurd (cc)

  pub was_ready : AtMostEight l.message → (r : Ready limits text before l G) → (m : Steps limits text l G) × (r.sender ≡ m.sender) × (m.listed.terms ≡ terms_with text l.message G)
  was_ready few r =
      let a = enters limits text r.sender l.sender G r.sender_stands in
      let x = entered limits text r.sender l.sender G a.0 a.1 in
      let b = enters limits text r.receiver l.receiver a.0
      (subst⁻¹ (λ S. MayStand limits S (names_of a.0) r.receiver) x.scope (subst⁻¹ (λ ns. MayStand limits G.scope ns r.receiver) x.names r.receiver_stands)) in
      let y = entered limits text r.receiver l.receiver a.0 b.0 b.1 in
      let same : (b.0).scope ≡ G.scope = y.scope ∙ x.scope in
      let t = ((typing_law text G.scope d).good l.message Number).1 r.typed in
      let q = is_read text G.scope.names most l.message G.scope.terms few r.terms in
      let listed : Scope = record { names = G.scope.names; functions = G.scope.functions; starts = G.scope.starts; rights = G.scope.rights; terms = terms_with text l.message G } in (
        record {
          sender = r.sender;
          receiver = r.receiver;
          sent = a.0;
          met = b.0;
          listed = listed;
          finds_sender = is_principal text G.scope l.sender r.sender r.sends;
          starts_sender = a.1;
          finds_receiver = ap (λ S. principal text S l.receiver) x.scope ∙ is_principal text G.scope l.receiver r.receiver r.receives;
          two = false_from_ne_true (eqb r.receiver r.sender) (λ e. r.two (sym (eqb-true r.receiver r.sender e)));
          starts_receiver = b.1;
          lists = ap (with_term text most l.message) same ∙ ap₂ (λ u v. and_then u (with_terms text G.scope v)) t q;
        },
        refl,
        refl,
      )
