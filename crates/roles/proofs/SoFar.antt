-- A stage that some lines led to: what its roles did so far, and which names are listed. A role that starts stands as the model's does.
use Rattle.std.proofs.Common.{◌≡◌, ℕ, suc, ◌<◌, ◌≤◌, Bool, true, false, cond, eqb, T, List, [], ◌∷◌, ◌++◌, map, length, get_or, min, leb, Ok, Err, sym, refl, ap, ◌∙◌, subst, ap₂, append_assoc, arith, eqb→eq, length-append}
use native.Mathlib.Decide.{dec_lt}
use mathlib.Core.Path.{subst⁻¹}
use Rattle.std.proofs.Math.ListN.{get_or-append}
use Rattle.std.proofs.Math.Seq.{get_or-append_seam}
use Rattle.std.proofs.lemmas.Bool.{lt-ltb, le-ltb, cond-true, cond-false}
use Rattle.std.proofs.lemmas.List.{length-map, map-append}
use Rattle.model.specs.Lists.{Every}
use Rattle.model.specs.Trees.{Tree, Formed}
use Rattle.model.specs.Roles.{start}
use Rattle.model.specs.Specifications.{Line, Specification, stands_in, stood_before, makes, Duty, begin, speak, listen, own_from}
use Rattle.model.proofs.Lists.{every_map}
use Rattle.syntax.specs.declared.spec.Name.{Name}
use Rattle.syntax.specs.Specs.{Lined}
use Rattle.terms.specs.Declaring.{bind}
use Rattle.terms.specs.Scope.{Scope}
use Rattle.terms.specs.Starting.{given_to}
use Rattle.terms.specs.Typing.{typed}
use Rattle.terms.specs.declared.declarations.ValueType.TheVariants.{Number}
use Rattle.terms.specs.declared.limits.Limits.{Limits}
use Rattle.terms.proofs.DeclaredTerms.{given_every}
use Rattle.terms.proofs.Steps.{steps}
use Rattle.terms.proofs.Standing.{Stood}
use Rattle.roles.specs.declared.line_fault.LineFault.TheVariants.{Limit}
use Rattle.roles.specs.Playing.{Player, ended}
use Rattle.roles.specs.Stages.{Stage, with_role, place_among}
use Rattle.roles.specs.Starting.{party_in, nobody, started}
use Rattle.roles.specs.Specified.{place_in, with_number, role_names, line_among, starting_terms, specified}
use Rattle.roles.proofs.Changing.{names, place_is}
use Rattle.roles.proofs.Doing.{ended_after, Did, did_nothing, did_line}
use Rattle.roles.proofs.RoleNames.{number_there, number_new}

-- a scope with other terms listed
abbrev pub listing : Scope → List Tree → Scope
listing U us = record { names = U.names; functions = U.functions; starts = U.starts; rights = U.rights; terms = us }

-- messages have good types, over the declared names and functions
abbrev pub WellTyped : List ℕ → Scope → List Lined → Type 0
WellTyped text U ls = Every (λ l. (us : List Tree) × (typed text (listing U us) l.message Number ≡ Ok tt)) ls

-- lines between two of the first so many roles
abbrev pub Between : ℕ → List Line → Type 0
Between n xs = Every (λ x. (x.sender < n) × (x.receiver < n) × ¬ (x.sender ≡ x.receiver)) xs

-- a role that stands in none of some lines has nothing to do in them
not_own : (S : Specification) (n r l : ℕ) (xs : List Line) → n ≤ r → Between n xs → own_from S r l xs ≡ []
not_own S n r l [] h b = refl
not_own S n r l (x ∷ xs) h b =
    let p = b.0.0 in
    let q = b.0.1 in
    go (eqb r x.sender) (eqb r x.receiver) (λ t. let e = eqb→eq r x.sender t in omega arith) (λ t. let e = eqb→eq r x.receiver t in omega arith) (not_own S n r (suc l) xs h b.1)
  where
    go : (a c : Bool) → (T a → ⊥) → (T c → ⊥) → own_from S r (suc l) xs ≡ [] → cond a (speak l (makes S l) ∷ own_from S r (suc l) xs) (cond c (listen l ∷ own_from S r (suc l) xs) (own_from S r (suc l) xs)) ≡ []
    go true c f g e = absurd (f tt)
    go false true f g e = absurd (g tt)
    go false false f g e = e

module _ (text : List ℕ) (U : Scope) (ls : List Lined) where
  abbrev pub all : List ℕ
  all = role_names text U ls

  abbrev S : Specification
  S = specified text U ls

  abbrev pub modelled : List Lined → List Line
  modelled xs = map (line_among text U all) xs

  -- what a role of the model is to do in these lines
  abbrev pub doings : ℕ → List Lined → List Duty
  doings r xs = begin (S.knows r) ∷ own_from S r 1 (modelled xs)

  -- after these lines there are roles of these names
  pub record SoFar (before : List Lined) (ns : List ℕ) (G : Stage) : Type 0 where
    pub scope : G.scope ≡ listing U G.scope.terms
    pub stood : Stood (λ n. stands_in n (starting_terms text U)) (stood_before S (suc (length before))) G.scope
    pub numbers : names G.players ≡ ns
    pub typed : WellTyped text U before
    pub between : Between (length ns) (modelled before)
    pub did : (r : ℕ) (p : Player) → r < length ns → Did S r (doings r before) (get_or G.players r p)

  module _ (before : List Lined) (ns : List ℕ) (G : Stage) (h : SoFar before ns G) where
    pub counted : length G.players ≡ length ns
    counted = sym (length-map G.players (λ (p : Player). p.name)) ∙ ap length h.numbers

    pub placed : (a : ℕ) → place_among a G.players ≡ place_in a ns
    placed a = place_is a G.players ∙ ap (place_in a) h.numbers

    module _ (formed : Every Formed (starting_terms text U)) (limits : Limits) (a : ℕ) (x : Name) (new : length ns ≤ place_in a ns) (rest : List ℕ) (e : all ≡ (ns ++ (a ∷ [])) ++ rest) where
      -- a role that starts is the next of the model's
      next_is : get_or all (length ns) 0 ≡ a
      next_is = ap (λ ms. get_or ms (length ns) 0) (e ∙ append_assoc ns (a ∷ []) rest) ∙ get_or-append_seam ns a rest 0

      abbrev first : Player
      first = record { name = a; part = x.part; party = party_in G.scope a; role = nobody; rows = [] }

      begun : (p : Player) → started limits G.scope a x ≡ Ok p → Did S (length ns) (doings (length ns) before) p
      begun p q =
          let P = S.party (length ns) in
          let same : party_in G.scope a ≡ P = ap (λ z. party_in z a) h.scope ∙ ap (party_in U) (sym next_is) in
          let gives : given_to a G.scope.starts ≡ S.knows (length ns) = ap (λ (z : Scope). given_to a z.starts) h.scope ∙ ap (λ n. given_to n U.starts) (sym next_is) in
          subst (λ ds. Did S (length ns) (begin (S.knows (length ns)) ∷ ds) p) (sym (not_own S (length ns) (length ns) 1 (modelled before) (omega arith) h.between))
          (did_line S (length ns) [] (begin (S.knows (length ns))) first (start P (S.knows (length ns))) (did_nothing S (length ns) first same refl refl)
          (refl, given_every Formed _ U.starts formed) refl limits x.at p (ap (λ s. ended limits 0 x.at first s) (sym (ap₂ start same gives)) ∙ q))

      begun_name : (p : Player) → started limits G.scope a x ≡ Ok p → p.name ≡ a
      begun_name p q = ap (λ (z : Player). z.name) (sym (ended_after limits 0 x.at first (start (party_in G.scope a) (given_to a G.scope.starts)) p q))

      joined : (p : Player) → started limits G.scope a x ≡ Ok p → SoFar before (ns ++ (a ∷ [])) (record { scope = G.scope; players = G.players ++ (p ∷ []) })
      joined p q =
          let l = length-append ns (a ∷ []) in
          record {
            scope = h.scope;
            stood = h.stood;
            numbers = map-append (λ (z : Player). z.name) G.players (p ∷ []) ∙ ap (λ ms. ms ++ (p.name ∷ [])) h.numbers ∙ ap (λ n. ns ++ (n ∷ [])) (begun_name p q);
            typed = h.typed;
            between = every_map _ _ (λ y b. let i = b.0 in let j = b.1 in (omega arith, omega arith, b.2)) (modelled before) h.between;
            did = λ r d i. go r d (dec_lt r (length ns)) (omega arith);
          }
        where
          go : (r : ℕ) (d : Player) → Dec (r < length ns) → r ≤ length ns → Did S r (doings r before) (get_or (G.players ++ (p ∷ [])) r d)
          go r d (yes i) j = let c = counted in subst⁻¹ (Did S r (doings r before)) (get_or-append G.players (p ∷ []) d r (omega arith)) (h.did r d i)
          go r d (no i) j =
              let c = counted in
              let k : length ns ≡ r = omega arith in
              let there : get_or (G.players ++ (p ∷ [])) (length ns) d ≡ p = ap (λ n. get_or (G.players ++ (p ∷ [])) n d) (sym c) ∙ get_or-append_seam G.players p [] d in
              subst (λ n. Did S n (doings n before) (get_or (G.players ++ (p ∷ [])) n d)) k (subst⁻¹ (Did S (length ns) (doings (length ns) before)) there (begun p q))

      pub role_joins : (H : Stage) → with_role limits text a x G ≡ Ok H → SoFar before (ns ++ (a ∷ [])) H × (H.scope ≡ G.scope)
      role_joins H q =
          let c = counted in
          let k = placed a in
          opens (leb (min limits.roles 8) (length G.players))
          (sym (cond-false _ _ _ (le-ltb (place_among a G.players) (length G.players) (omega arith))) ∙ q)
        where
          whole : Player → Stage
          whole p = record { scope = G.scope; players = G.players ++ (p ∷ []) }

          opens : (b : Bool) → cond b (Err (Limit x.at)) (bind (started limits G.scope a x) (λ p. Ok (record { scope = G.scope; players = G.players ++ (p ∷ []) }))) ≡ Ok H → SoFar before (ns ++ (a ∷ [])) H × (H.scope ≡ G.scope)
          opens true e = absurd (cc)
          opens false e =
              let b = steps (started limits G.scope a x) (λ p. Ok (record { scope = G.scope; players = G.players ++ (p ∷ []) })) H e in
              let s = b.second in
              let is : record { scope = G.scope; players = G.players ++ (b.mid ∷ []) } ≡ H = cc in
              subst (λ (z : Stage). SoFar before (ns ++ (a ∷ [])) z × (z.scope ≡ G.scope)) is (joined b.mid b.first, refl)

    -- a role is there, or starts
    pub role_stands : Every Formed (starting_terms text U) → (limits : Limits) (a : ℕ) (x : Name) (rest : List ℕ) → all ≡ with_number a ns ++ rest
        → (H : Stage) → with_role limits text a x G ≡ Ok H → SoFar before (with_number a ns) H × (H.scope ≡ G.scope)
    role_stands formed limits a x rest e H q = go (dec_lt (place_in a ns) (length ns))
      where
        go : Dec (place_in a ns < length ns) → SoFar before (with_number a ns) H × (H.scope ≡ G.scope)
        go (yes i) =
            let c = counted in
            let k = placed a in
            let same = sym (cond-true _ _ _ (lt-ltb (place_among a G.players) (length G.players) (omega arith))) ∙ q in
            let is : G ≡ H = cc in
            subst⁻¹ (λ ms. SoFar before ms H × (H.scope ≡ G.scope)) (number_there a ns i) (subst (λ (z : Stage). SoFar before ns z × (z.scope ≡ G.scope)) is (h, refl))
        go (no i) =
            let j : length ns ≤ place_in a ns = omega arith in
            subst⁻¹ (λ ms. SoFar before ms H × (H.scope ≡ G.scope)) (number_new a ns j)
            (role_joins formed limits a x j rest (e ∙ ap (λ ms. ms ++ rest) (number_new a ns j)) H q)
