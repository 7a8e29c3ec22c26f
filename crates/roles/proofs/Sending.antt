-- A message takes its two roles one line further, as the model has it.
use Rattle.std.proofs.Common.{◌≡◌, ℕ, suc, ◌+◌, ◌<◌, min, Bool, true, false, cond, eqb, ◌||◌, T, ◌↔◌, List, [], ◌∷◌, ◌++◌, map, length, get_or, drop, Ok, Err, Result, sym, refl, ap, ◌∙◌, subst, append-nil, arith, length-append}
use mathlib.Core.Path.{subst⁻¹}
use Rattle.std.proofs.lemmas.List.{length-map, map-append}
use Rattle.model.specs.Trees.{Tree, Formed}
use Rattle.model.specs.Roles.{Said, spoke, failed, said, heard}
use Rattle.model.specs.Lives.{spoken}
use Rattle.model.specs.Specifications.{Line, Specification, stands, stands_in, message_at, message as message_of, stood_before, makes, Duty, begin, speak, listen, own_from}
use Rattle.model.proofs.Lists.{every_join}
use Rattle.model.proofs.Machine.{eqb_iff}
use Rattle.syntax.specs.Places.{term_place}
use Rattle.syntax.specs.Specs.{Lined}
use Rattle.terms.specs.Declaring.{with_term}
use Rattle.terms.specs.Numbering.{tree}
use Rattle.terms.specs.Scope.{Scope}
use Rattle.terms.specs.Starting.{made_among}
use Rattle.terms.specs.Typing.{typed}
use Rattle.terms.specs.declared.declarations.ValueType.TheVariants.{Number}
use Rattle.terms.specs.declared.limits.Limits.{Limits}
use Rattle.terms.proofs.Steps.{steps}
use Rattle.terms.proofs.Leaves.{tree_formed}
use Rattle.terms.proofs.Scopes.{taken}
use Rattle.terms.proofs.Standing.{Stood, stood_more}
use Rattle.roles.specs.declared.line_fault.LineFault.{LineFault}
use Rattle.roles.specs.Parties.{makes_of}
use Rattle.roles.specs.Playing.{Player, ended, says, said_so, hears}
use Rattle.roles.specs.Refusals.{to_line}
use Rattle.roles.specs.Stages.{Stage, refused_by, change, message}
use Rattle.roles.specs.Specified.{place_in, numbered, line_among, starting_terms, specified}
use Rattle.roles.proofs.Changing.{names, Changed, changed_at, names_same}
use Rattle.roles.proofs.Doing.{after, ended_after, Did, did_line}
use Rattle.roles.proofs.Making.{made_here}
use Rattle.roles.proofs.RoleNames.{place_kept}
use Rattle.roles.proofs.SoFar.{Between, all, modelled, doings, SoFar, counted}

-- a good step, in other words
pub as_good : {A E F : Type 0} (f : E → F) (r : Result A E) (x : A) → refused_by f r ≡ Ok x → r ≡ Ok x
as_good f (Ok y) x e = let p : y ≡ x = cc in ap Ok p
as_good f (Err y) x e = absurd (cc)

-- one role
module _ (limits : Limits) (k at : ℕ) where
  says_name : (role : ℕ) (terms : List Tree) (mk : ℕ → Bool) (t : Tree) (p q : Player) → says limits k at role terms mk t p ≡ Ok q → q.name ≡ p.name
  says_name role terms mk t p q = go (said p.party mk t p.role)
    where
      go : (x : Said) → said_so limits k at role terms p x ≡ Ok q → q.name ≡ p.name
      go (spoke s) e = ap (λ (z : Player). z.name) (sym (ended_after limits k at p s q e))
      go (failed u) e = absurd (cc)

  hears_name : (t : Tree) (p q : Player) → hears limits k at t p ≡ Ok q → q.name ≡ p.name
  hears_name t p q e = ap (λ (z : Player). z.name) (sym (ended_after limits k at p (heard p.party t p.role) q e))

  module _ (S : Specification) (r : ℕ) (ds : List Duty) (p q : Player) (h : Did S r ds p) (f : Formed (message_of S k)) (t : Tree) (m : t ≡ message_of S k) where
    did_say : (role : ℕ) (terms : List Tree) (mk : ℕ → Bool) → mk ≡ makes S k → says limits k at role terms mk t p ≡ Ok q → Did S r (ds ++ (speak k (makes S k) ∷ [])) q
    did_say role terms mk n = go (said p.party mk t p.role) refl
      where
        same : said (S.party r) (makes S k) (message_of S k) p.role ≡ said p.party mk t p.role
        same = λ i. said (sym h.party i) (sym n i) (sym m i) p.role

        go : (x : Said) → said p.party mk t p.role ≡ x → said_so limits k at role terms p x ≡ Ok q → Did S r (ds ++ (speak k (makes S k) ∷ [])) q
        go (spoke s) e g = did_line S r ds (speak k (makes S k)) p s h f (ap spoken (same ∙ e)) limits at q g
        go (failed u) e g = absurd (cc)

    did_hear : hears limits k at t p ≡ Ok q → Did S r (ds ++ (listen k ∷ [])) q
    did_hear e =
        let same : heard (S.party r) (message_of S k) p.role ≡ heard p.party t p.role = λ i. heard (sym h.party i) (sym m i) p.role in
        did_line S r ds (listen k) p (heard (S.party r) (message_of S k) p.role) h f refl limits at q (ap (ended limits k at p) same ∙ e)

-- the message of a line, and what it gives a role to do
pub message_there : (text : List ℕ) (U : Scope) (ms : List ℕ) (before after : List Lined) (l : Lined)
    → message_at (map (line_among text U ms) (before ++ (l ∷ after))) (length before) ≡ tree text U.names l.message
message_there text U ms [] after l = refl
message_there text U ms (x ∷ before) after l = message_there text U ms before after l

pub own_then : (S : Specification) (r l k : ℕ) (xs : List Line) (x : Line) → l + length xs ≡ k → own_from S r l (xs ++ (x ∷ [])) ≡ own_from S r l xs ++ own_from S r k (x ∷ [])
own_then S r l k [] x e = let p : l ≡ k = omega arith in ap (λ n. own_from S r n (x ∷ [])) p
own_then S r l k (y ∷ xs) x e = go (eqb r y.sender) (eqb r y.receiver) (own_then S r (suc l) k xs x (omega arith))
  where
    rest : List Duty
    rest = own_from S r (suc l) xs

    more : List Duty
    more = own_from S r (suc l) (xs ++ (x ∷ []))

    go : (a b : Bool) → own_from S r (suc l) (xs ++ (x ∷ [])) ≡ own_from S r (suc l) xs ++ own_from S r k (x ∷ [])
        → cond a (speak l (makes S l) ∷ own_from S r (suc l) (xs ++ (x ∷ []))) (cond b (listen l ∷ own_from S r (suc l) (xs ++ (x ∷ []))) (own_from S r (suc l) (xs ++ (x ∷ []))))
        ≡ cond a (speak l (makes S l) ∷ own_from S r (suc l) xs) (cond b (listen l ∷ own_from S r (suc l) xs) (own_from S r (suc l) xs)) ++ own_from S r k (x ∷ [])
    go true b i = ap (λ ds. speak l (makes S l) ∷ ds) i
    go false true i = ap (λ ds. listen l ∷ ds) i
    go false false i = i

-- the whole message
module _ (text : List ℕ) (U : Scope) (ls before after : List Lined) (l : Lined) (e : ls ≡ before ++ (l ∷ after)) (ns rest : List ℕ) (w : all text U ls ≡ ns ++ rest)
    (G : Stage) (h : SoFar text U ls before ns G) where
  abbrev S : Specification
  S = specified text U ls

  abbrev k : ℕ
  k = suc (length before)

  abbrev x : Line
  x = line_among text U (all text U ls) l

  sent_here : tree text U.names l.message ≡ message_of S k
  sent_here = sym (message_there text U (all text U ls) before after l) ∙ ap (λ z. message_at (map (line_among text U (all text U ls)) z) (length before)) (sym e)

  pub sent : tree text G.scope.names l.message ≡ message_of S k
  sent = ap (λ (z : Scope). tree text z.names l.message) h.scope ∙ sent_here

  pub doings_then : (r : ℕ) → doings text U ls r (before ++ (l ∷ [])) ≡ doings text U ls r before ++ own_from S r k (x ∷ [])
  doings_then r =
      ap (λ xs. doings_of r xs) (map-append (line_among text U (all text U ls)) before (l ∷ []))
      ∙ ap (λ ds. begin (S.knows r) ∷ ds) (own_then S r 1 k (modelled text U ls before) x (let n = length-map before (line_among text U (all text U ls)) in omega arith))
    where
      doings_of : ℕ → List Line → List Duty
      doings_of r xs = begin (S.knows r) ∷ own_from S r 1 xs

  module _ (i : place_in (numbered text U l.sender) ns < length ns) (j : place_in (numbered text U l.receiver) ns < length ns)
      (d : ¬ (place_in (numbered text U l.sender) ns ≡ place_in (numbered text U l.receiver) ns)) where
    abbrev from : ℕ
    from = place_in (numbered text U l.sender) ns

    abbrev to : ℕ
    to = place_in (numbered text U l.receiver) ns

    sender_is : x.sender ≡ from
    sender_is = ap (place_in (numbered text U l.sender)) w ∙ place_kept (numbered text U l.sender) ns rest i

    receiver_is : x.receiver ≡ to
    receiver_is = ap (place_in (numbered text U l.receiver)) w ∙ place_kept (numbered text U l.receiver) ns rest j

    module _ (limits : Limits) (V : Scope) (v : with_term text (min limits.terms 512) l.message G.scope ≡ Ok V) where
      abbrev saying : Player → Result Player LineFault
      saying = says limits k (term_place l.message) from V.terms (makes_of (made_among V.names (drop (length G.scope.terms) V.terms))) (tree text G.scope.names l.message)

      abbrev hearing : Player → Result Player LineFault
      hearing = hears limits k (term_place l.message) (tree text G.scope.names l.message)

      pub made : makes_of (made_among V.names (drop (length G.scope.terms) V.terms)) ≡ makes S k
      made = made_here text U ls (min limits.terms 512) k l.message G.scope V v (ap (λ (z : Scope). z.names) h.scope) sent_here h.stood

      formed : Formed (message_of S k)
      formed = subst Formed sent (tree_formed text G.scope.names l.message)

      -- whoever has a name keeps it
      same_names : (ps qs : List Player) → change from saying G.players ≡ Ok ps → change to hearing ps ≡ Ok qs → names qs ≡ names G.players
      same_names ps qs a b =
          let said_still : names ps ≡ names G.players = names_same saying (says_name limits k (term_place l.message) from V.terms _ (tree text G.scope.names l.message)) from G.players ps a in
          names_same hearing (hears_name limits k (term_place l.message) (tree text G.scope.names l.message)) to ps qs b ∙ said_still

      module _ (ps qs : List Player) (c : Changed saying from G.players ps) (c' : Changed hearing to ps qs) where
        did_then : (r : ℕ) (p : Player) → r < length ns → Did S r (doings text U ls r (before ++ (l ∷ []))) (get_or qs r p)
        did_then r p b = subst⁻¹ (λ ds. Did S r ds (get_or qs r p)) (doings_then r) (go (eqb r x.sender) (eqb r x.receiver) (eqb_iff r x.sender) (eqb_iff r x.receiver))
          where
            old : Did S r (doings text U ls r before) (get_or G.players r p)
            old = h.did r p b

            n : length G.players ≡ length ns
            n = counted text U ls before ns G h

            go : (a b : Bool) → (T a ↔ (r ≡ x.sender)) → (T b ↔ (r ≡ x.receiver))
                → Did S r (doings text U ls r before ++ cond a (speak k (makes S k) ∷ []) (cond b (listen k ∷ []) [])) (get_or qs r p)
            go true b f g =
                let y : from ≡ r = sym (f.0 tt ∙ sender_is) in
                let z = c.itself p (let m = n in omega arith) in
                subst⁻¹ (Did S r (doings text U ls r before ++ (speak k (makes S k) ∷ []))) (c'.others r p (λ q. d (y ∙ q)))
                (did_say limits k (term_place l.message) S r (doings text U ls r before) (get_or G.players r p) (get_or ps r p) old formed _ sent from V.terms _ made
                (subst (λ z. saying (get_or G.players z p) ≡ Ok (get_or ps z p)) y z))
            go false true f g =
                let y : to ≡ r = sym (g.0 tt ∙ receiver_is) in
                let z = c'.itself p (let m = c.long in let m' = n in omega arith) in
                did_hear limits k (term_place l.message) S r (doings text U ls r before) (get_or G.players r p) (get_or qs r p) old formed _ sent
                (ap hearing (sym (c.others r p (λ q. d (sym q ∙ sym y)))) ∙ subst (λ z. hearing (get_or ps z p) ≡ Ok (get_or qs z p)) y z)
            go false false f g =
                subst⁻¹ (λ ds. Did S r ds (get_or qs r p)) (append-nil (doings text U ls r before))
                (subst⁻¹ (Did S r (doings text U ls r before)) (c'.others r p (λ q. g.1 (q ∙ sym receiver_is)) ∙ c.others r p (λ q. f.1 (q ∙ sym sender_is))) old)

        so_far_then : names qs ≡ names G.players → SoFar text U ls (before ++ (l ∷ [])) ns (record { scope = V; players = qs })
        so_far_then same =
            let t = taken text (min limits.terms 512) l.message G.scope V v in
            let len : length (before ++ (l ∷ [])) ≡ k = (let n = length-append before (l ∷ []) in omega arith) in
            record {
              scope = λ i. record {
                names = (t.names ∙ ap (λ (z : Scope). z.names) h.scope) i;
                functions = (t.functions ∙ ap (λ (z : Scope). z.functions) h.scope) i;
                starts = (t.starts ∙ ap (λ (z : Scope). z.starts) h.scope) i;
                rights = (t.rights ∙ ap (λ (z : Scope). z.rights) h.scope) i;
                terms = V.terms;
              };
              stood = subst⁻¹ (λ m. Stood (λ n. stands_in n (starting_terms text U)) (stood_before S (suc m)) V) len
                  (subst (λ u. Stood (λ n. stands_in n (starting_terms text U)) (λ n. stands n u || stood_before S k n) V) sent
                  (stood_more text (min limits.terms 512) l.message G.scope V v (λ n. stands_in n (starting_terms text U)) (stood_before S k) h.stood));
              numbers = same ∙ h.numbers;
              typed = every_join _ before (l ∷ []) h.typed ((G.scope.terms, subst (λ z. typed text z l.message Number ≡ Ok tt) h.scope t.typed_well), tt);
              between = subst⁻¹ (Between (length ns)) (map-append (line_among text U (all text U ls)) before (l ∷ []))
                  (every_join _ (modelled text U ls before) (x ∷ []) h.between
                  ((let p = sender_is in omega arith, (let p = receiver_is in omega arith), λ q. d (sym sender_is ∙ q ∙ receiver_is)), tt));
              did = did_then;
            }

      so_far_at : (ps qs : List Player) → change from saying G.players ≡ Ok ps → change to hearing ps ≡ Ok qs → (H : Stage) → record { scope = V; players = qs } ≡ H → SoFar text U ls (before ++ (l ∷ [])) ns H
      so_far_at ps qs a b H is = subst (SoFar text U ls (before ++ (l ∷ [])) ns) is (so_far_then ps qs (changed_at saying from G.players ps a) (changed_at hearing to ps qs b) (same_names ps qs a b))

    pub message_then : (limits : Limits) (H : Stage) → message limits text k l.message from to G ≡ Ok H → SoFar text U ls (before ++ (l ∷ [])) ns H
    message_then limits H q =
        let g = steps (refused_by to_line (with_term text (min limits.terms 512) l.message G.scope)) _ H q in
        let v = as_good to_line (with_term text (min limits.terms 512) l.message G.scope) g.mid g.first in
        let f = steps (change from (saying limits g.mid v) G.players) _ H g.second in
        let f' = steps (change to (hearing limits g.mid v) f.mid) _ H f.second in
        let s = f'.second in
        so_far_at limits g.mid v f.mid f'.mid f.first f'.first H (cc)
