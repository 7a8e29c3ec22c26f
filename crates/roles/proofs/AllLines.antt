-- After lines that were accepted each role stands where the model's does.
use Rattle.std.proofs.Common.{◌≡◌, ℕ, suc, ◌<◌, Bool, true, false, cond, eqb, true≢false, List, [], ◌∷◌, ◌++◌, map, length, get_or, min, Some, None, Ok, Err, Option, Result, sym, refl, ap, ◌∙◌, subst, append_assoc, append-nil, arith, length-append}
use mathlib.Core.Path.{subst⁻¹}
use Rattle.std.specs.Option.{unwrap_or}
use Rattle.std.proofs.lemmas.Bool.{eq-eqb, cond-false}
use Rattle.std.proofs.lemmas.List.{length-map, map-append}
use Rattle.model.specs.Lists.{Every}
use Rattle.model.specs.Trees.{Formed}
use Rattle.syntax.specs.declared.spec.Label.{Label}
use Rattle.syntax.specs.declared.spec.Name.{Name}
use Rattle.syntax.specs.Specs.{Lined}
use Rattle.terms.specs.Declaring.{bind, party_number, principal, with_term}
use Rattle.terms.specs.Scope.{Scope, number_of, meaning_of}
use Rattle.terms.specs.declared.declarations.Meaning.{Meaning}
use Rattle.terms.specs.declared.declarations.Meaning.TheVariants.{Value, Function}
use Rattle.terms.specs.declared.declarations.ValueType.TheVariants.{Number, Principal}
use Rattle.terms.specs.declared.limits.Limits.{Limits}
use Rattle.terms.proofs.Steps.{steps}
use Rattle.roles.specs.declared.line_fault.LineFault.{LineFault}
use Rattle.roles.specs.declared.line_fault.LineFault.TheVariants.{Repeated}
use Rattle.roles.specs.Labels.{unused}
use Rattle.roles.specs.Refusals.{to_line}
use Rattle.roles.specs.Stages.{Stage, refused_by, place_among, with_role, message, line, lines}
use Rattle.roles.specs.Specified.{place_in, with_number, numbered, names_from, starting_terms}
use Rattle.roles.proofs.RoleNames.{place_kept, at_place, number_added, number_placed, names_kept, names_then}
use Rattle.roles.proofs.Sending.{as_good, message_then}
use Rattle.roles.proofs.SoFar.{all, SoFar, placed, role_stands}

-- a party's number is that of its name
principal_is : (text : List ℕ) (S : Scope) (x : Name) (a : ℕ) → principal text S x ≡ Ok a → numbered text S x ≡ a
principal_is text S x a = go (number_of text S.names x.part) (meaning_of text S.names x.part)
  where
    go : (o : Option ℕ) (m : Option Meaning) → party_number x o m ≡ Ok a → unwrap_or o 0 ≡ a
    go None m e = absurd (cc)
    go (Some k) None e = absurd (cc)
    go (Some k) (Some (Value Number shared)) e = absurd (cc)
    go (Some k) (Some (Value Principal shared)) e = cc
    go (Some k) (Some (Function f)) e = absurd (cc)

-- a line whose sender has its role (`sent`), then its receiver too (`met`), and whose message is well typed and listed
pub record Steps (limits : Limits) (text : List ℕ) (l : Lined) (G : Stage) : Type 0 where
  pub sender : ℕ
  pub receiver : ℕ
  pub sent : Stage
  pub met : Stage
  pub listed : Scope
  pub finds_sender : principal text G.scope l.sender ≡ Ok sender
  pub starts_sender : with_role limits text sender l.sender G ≡ Ok sent
  pub finds_receiver : principal text sent.scope l.receiver ≡ Ok receiver
  pub two : eqb receiver sender ≡ false
  pub starts_receiver : with_role limits text receiver l.receiver sent ≡ Ok met
  pub lists : with_term text (min limits.terms 512) l.message met.scope ≡ Ok listed

-- a line whose roles are there is its message
module _ (limits : Limits) (text : List ℕ) (n : ℕ) (l : Lined) (G : Stage) where
  abbrev pub message_of : (a b : ℕ) (K : Stage) → Result Stage LineFault
  message_of a b K = message limits text n l.message (place_among a K.players) (place_among b K.players) K

  abbrev pub from_receiver : ℕ → Stage → Result Stage LineFault
  from_receiver a H =
      bind (refused_by to_line (principal text H.scope l.receiver)) (λ b. cond (eqb b a) (Err (Repeated l.receiver.at)) (bind (with_role limits text b l.receiver H) (message_of a b)))

  pub line_is : (m : Steps limits text l G) → line limits text n l G ≡ message_of m.sender m.receiver m.met
  line_is m =
      ap (λ o. bind (refused_by to_line o) (λ a. bind (with_role limits text a l.sender G) (from_receiver a))) m.finds_sender
      ∙ ap (λ o. bind o (from_receiver m.sender)) m.starts_sender
      ∙ ap (λ o. bind (refused_by to_line o) (λ b. cond (eqb b m.sender) (Err (Repeated l.receiver.at)) (bind (with_role limits text b l.receiver m.sent) (message_of m.sender b)))) m.finds_receiver
      ∙ cond-false _ _ _ m.two ∙ ap (λ o. bind o (message_of m.sender m.receiver)) m.starts_receiver

  pub line_ready : (H : Stage) → line limits text n l G ≡ Ok H → (m : Steps limits text l G) × (message_of m.sender m.receiver m.met ≡ Ok H)
  line_ready H e =
      let a = steps (refused_by to_line (principal text G.scope l.sender)) (λ a. bind (with_role limits text a l.sender G) (from_receiver a)) H e in
      let s = steps (with_role limits text a.mid l.sender G) (from_receiver a.mid) H a.second in
      let b = steps (refused_by to_line (principal text s.mid.scope l.receiver)) (λ b. cond (eqb b a.mid) (Err (Repeated l.receiver.at)) (bind (with_role limits text b l.receiver s.mid) (message_of a.mid b))) H s.second in
      two a.mid b.mid s.mid (as_good to_line _ a.mid a.first) s.first (as_good to_line _ b.mid b.first) (eqb b.mid a.mid) refl b.second
    where
      two : (a b : ℕ) (K : Stage) → principal text G.scope l.sender ≡ Ok a → with_role limits text a l.sender G ≡ Ok K → principal text K.scope l.receiver ≡ Ok b
          → (c : Bool) → eqb b a ≡ c → cond c (Err (Repeated l.receiver.at)) (bind (with_role limits text b l.receiver K) (message_of a b)) ≡ Ok H
          → (m : Steps limits text l G) × (message_of m.sender m.receiver m.met ≡ Ok H)
      two a b K p q r true c e = absurd (cc)
      two a b K p q r false c e =
          let t = steps (with_role limits text b l.receiver K) (message_of a b) H e in
          let v = steps (refused_by to_line (with_term text (min limits.terms 512) l.message t.mid.scope)) _ H t.second in (
            record {
              sender = a;
              receiver = b;
              sent = K;
              met = t.mid;
              listed = v.mid;
              finds_sender = p;
              starts_sender = q;
              finds_receiver = r;
              two = c;
              starts_receiver = t.first;
              lists = as_good to_line _ v.mid v.first;
            },
            t.second,
          )

module _ (limits : Limits) (text : List ℕ) (U : Scope) (ls : List Lined) (formed : Every Formed (starting_terms text U)) where
  -- the two roles of a line
  pub record Two (before after : List Lined) (l : Lined) (ns : List ℕ) (G : Stage) (m : Steps limits text l G) : Type 0 where
    pub sends : numbered text U l.sender ≡ m.sender
    pub receives : numbered text U l.receiver ≡ m.receiver
    pub so_far : SoFar text U ls before (names_from text U ns (l ∷ [])) m.met
    pub rest : List ℕ
    pub others : all text U ls ≡ names_from text U ns (l ∷ []) ++ rest
    pub sender_placed : place_in (numbered text U l.sender) (names_from text U ns (l ∷ [])) < length (names_from text U ns (l ∷ []))
    pub receiver_placed : place_in (numbered text U l.receiver) (names_from text U ns (l ∷ [])) < length (names_from text U ns (l ∷ []))
    pub apart : ¬ (place_in (numbered text U l.sender) (names_from text U ns (l ∷ [])) ≡ place_in (numbered text U l.receiver) (names_from text U ns (l ∷ [])))

  module _ (before after : List Lined) (l : Lined) (e : ls ≡ before ++ (l ∷ after)) (ns : List ℕ) (w : ns ≡ names_from text U [] before) (G : Stage) (h : SoFar text U ls before ns G) where
    abbrev a : ℕ
    a = numbered text U l.sender

    abbrev b : ℕ
    b = numbered text U l.receiver

    abbrev one : List ℕ
    one = with_number a ns

    abbrev both : List ℕ
    both = with_number b one

    pub two_roles : (m : Steps limits text l G) → Two before after l ns G m
    two_roles m = record {
      sends = sends;
      receives = receives;
      so_far = subst (λ c. SoFar text U ls before (with_number c one) m.met) (sym receives) second.0;
      rest = kept.0;
      others = whole;
      sender_placed = subst⁻¹ (λ ms. place_in a ms < length ms) more.1 placed_still;
      receiver_placed = number_placed b one;
      apart = λ q. unlike (sym (at_place a both 0 (subst⁻¹ (λ ms. place_in a ms < length ms) more.1 placed_still)) ∙ ap (λ k. get_or both k 0) q ∙ at_place b both 0 (number_placed b one));
    }
      where
        sends : a ≡ m.sender
        sends = ap (λ (z : Scope). numbered text z l.sender) (sym h.scope) ∙ principal_is text G.scope l.sender m.sender m.finds_sender

        kept : (rest : List ℕ) × (names_from text U both after ≡ both ++ rest)
        kept = names_kept text U after both

        more : (rest : List ℕ) × (both ≡ one ++ rest)
        more = number_added b one

        whole : all text U ls ≡ both ++ kept.0
        whole = ap (names_from text U []) e ∙ names_then text U before (l ∷ after) [] ∙ ap (λ ms. names_from text U ms (l ∷ after)) (sym w) ∙ kept.1

        first : SoFar text U ls before one m.sent × (m.sent.scope ≡ G.scope)
        first = subst (λ c. SoFar text U ls before (with_number c ns) m.sent × (m.sent.scope ≡ G.scope)) (sym sends)
            (role_stands text U ls before ns G h formed limits m.sender l.sender (more.0 ++ kept.0)
            (subst (λ c. all text U ls ≡ with_number c ns ++ (more.0 ++ kept.0)) sends (whole ∙ ap (λ ms. ms ++ kept.0) more.1 ∙ append_assoc one more.0 kept.0)) m.sent m.starts_sender)

        receives : b ≡ m.receiver
        receives = ap (λ (z : Scope). numbered text z l.receiver) (sym (first.0).scope) ∙ principal_is text m.sent.scope l.receiver m.receiver m.finds_receiver

        second : SoFar text U ls before (with_number m.receiver one) m.met × (m.met.scope ≡ m.sent.scope)
        second = role_stands text U ls before one m.sent first.0 formed limits m.receiver l.receiver kept.0
            (subst (λ c. all text U ls ≡ with_number c one ++ kept.0) receives whole) m.met m.starts_receiver

        placed_still : place_in a (one ++ more.0) < length (one ++ more.0)
        placed_still =
            let p = number_placed a ns in
            let q = place_kept a one more.0 p in
            let n = length-append one more.0 in
            omega arith

        unlike : a ≡ b → ⊥
        unlike q =
            let p : m.receiver ≡ m.sender = sym receives ∙ sym q ∙ sends in
            let t = eq-eqb m.receiver m.sender p in
            absurd (true≢false (sym t ∙ m.two))

    -- a line that is accepted
    pub line_then : (H : Stage) → line limits text (suc (length before)) l G ≡ Ok H → SoFar text U ls (before ++ (l ∷ [])) (names_from text U ns (l ∷ [])) H
    line_then H q =
        let r = line_ready limits text (suc (length before)) l G H q in
        let m = r.0 in
        let t = two_roles m in
        let ms = names_from text U ns (l ∷ []) in
        message_then text U ls before after l e ms t.rest t.others m.met t.so_far t.sender_placed t.receiver_placed t.apart limits H
        (subst (λ (k : ℕ × ℕ). message limits text (suc (length before)) l.message k.0 k.1 m.met ≡ Ok H)
        (λ i. ((placed text U ls before ms m.met t.so_far m.sender ∙ ap (λ c. place_in c ms) (sym t.sends)) i, (placed text U ls before ms m.met t.so_far m.receiver ∙ ap (λ c. place_in c ms) (sym t.receives)) i))
        r.1)

  abbrev pub labels : List Lined → List Label
  labels xs = map (λ (x : Lined). x.label) xs

  -- and so all of them
  pub lines_then : (rest before after : List Lined) → ls ≡ before ++ (rest ++ after) → (G H : Stage) → SoFar text U ls before (names_from text U [] before) G
      → lines limits text (labels before) rest G ≡ Ok H → SoFar text U ls (before ++ rest) (names_from text U [] (before ++ rest)) H
  lines_then [] before after e G H h q =
      let is : G ≡ H = cc in
      subst⁻¹ (λ xs. SoFar text U ls xs (names_from text U [] xs) H) (append-nil before) (subst (SoFar text U ls before (names_from text U [] before)) is h)
  lines_then (l ∷ rest) before after e G H h q =
      let u = steps (unused text (labels before) l.label) (λ _. bind (line limits text (suc (length (labels before))) l G) (lines limits text (labels before ++ (l.label ∷ [])) rest)) H q in
      let v = steps (line limits text (suc (length (labels before))) l G) (lines limits text (labels before ++ (l.label ∷ [])) rest) H u.second in
      let one = line_then before (rest ++ after) l e (names_from text U [] before) refl G h v.mid
      (ap (λ n. line limits text (suc n) l G) (sym (length-map before (λ (x : Lined). x.label))) ∙ v.first) in
      subst (λ xs. SoFar text U ls xs (names_from text U [] xs) H) (append_assoc before (l ∷ []) rest)
      (lines_then rest (before ++ (l ∷ [])) after (e ∙ sym (append_assoc before (l ∷ []) (rest ++ after))) v.mid H
      (subst⁻¹ (λ ns. SoFar text U ls (before ++ (l ∷ [])) ns v.mid) (names_then text U before (l ∷ []) []) one)
      (ap (λ bs. lines limits text bs rest v.mid) (map-append (λ (x : Lined). x.label) before (l ∷ [])) ∙ v.second))
