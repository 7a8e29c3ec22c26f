-- The nodes that have begun in a state of reading are the first of every tree that it can be completed to.
use Rattle.std.proofs.Common.{◌≡◌, ℕ, suc, ◌+◌, ◌-◌, ◌*◌, ◌≤◌, true, false, cond, leb, List, [], ◌∷◌, ◌++◌, length, Ok, sym, refl, ap, ◌∙◌, subst, append_assoc, append-nil, arith, length-append}
use Rattle.text.specs.Bytes.{class}
use Rattle.text.specs.Grammar.{Spot, part, value, Term, Terms}
use Rattle.text.specs.Law.{nodes, nodes_all, From}
use Rattle.text.specs.Machine.{Frame, Point, before, inside, after, State, between, in_bracket, in_symbol, in_quotes, in_integer, put, closed, quotation, Step, broken, goes, begins, step_between, step_bracket, named, step_symbol, step_quotes, step_integer, step, finish}
use Rattle.text.specs.Reading.{count}
use Rattle.text.specs.Trees.{Tree, quoted, integer, bracket, Trees, none, more, add, size, sizes}
use Rattle.text.specs.declared.class.ByteClass.{ByteClass}
use Rattle.text.specs.declared.class.ByteClass.TheVariants.{Blank, Quote, Open, Close, Digit, Backslash, Other}
use Rattle.text.proofs.Completing.{grown, join, closing, Finish, Within, frame, Completes}

abbrev Nodes : Type 0
Nodes = List (ℕ × ℕ)

pub from_append : (p : ℕ) (ms ns : Nodes) → From p ms → From p ns → From p (ms ++ ns)
from_append p [] ns f g = g
from_append p (m ∷ ms) ns f g = (f.0, from_append p ms ns f.1 g)

pub from_less : (p q : ℕ) → p ≤ q → (ns : Nodes) → From q ns → From p ns
from_less p q l [] f = tt
from_less p q l (n ∷ ns) f = let h = f.0 in (omega arith, from_less p q l ns f.1)

-- The nodes of terms stand where the terms do.
mutual
  unfolding nodes

  term_from : (t : Tree) (l : ℕ) (x y : Spot) → Term x t y → From x.place (nodes l t) × (x.place ≤ y.place)
  term_from (quoted at s) l x y (a, c, q, o, r, e, pe, se) =
      let i = o.3 in
      let j = r.2 in
      let k = e.3 in
      ((omega arith, tt), omega arith)
  term_from (integer at n) l x y (ds, r, h, v, m, e, pe) = let j = r.2 in ((omega arith, tt), omega arith)
  term_from (bracket at s ts) l x y (a, c, d, f, w, n, o, rb, rs, h, e, terms, cl, pe, ne) =
      let t = terms_from ts (l + 1) d f terms in
      let g = t.1 in
      let i = o.3 in
      let j = rb.2 in
      let k = rs.2 in
      let m = cl.3 in
      ((omega arith, from_less x.place d.place (omega arith) (nodes_all (l + 1) ts) t.0), omega arith)

  terms_from : (ts : Trees) (l : ℕ) (x y : Spot) → Terms x ts y → From x.place (nodes_all l ts) × (x.place ≤ y.place)
  terms_from none l x y (w, r) = let j = r.2 in (tt, omega arith)
  terms_from (more t ts) l x y (a, b, w, r, term, terms) =
      let j = r.2 in
      let g = term_from t l a b term in
      let h = terms_from ts l b y terms in
      let u = g.1 in
      let v = h.1 in (
        from_append x.place (nodes l t) (nodes_all l ts) (from_less x.place a.place (omega arith) (nodes l t) g.0) (from_less x.place b.place (omega arith) (nodes_all l ts) h.0),
        omega arith,
      )

pub nodes_add : (l : ℕ) (ps : Trees) (t : Tree) → nodes_all l (add ps t) ≡ nodes_all l ps ++ nodes l t
unfolding nodes
nodes_add l none t = append-nil (nodes l t)
nodes_add l (more p ps) t = ap (λ z. nodes l p ++ z) (nodes_add l ps t) ∙ sym (append_assoc (nodes l p) (nodes_all l ps) (nodes l t))

nodes_join : (l : ℕ) (ps ts : Trees) → nodes_all l (join ps ts) ≡ nodes_all l ps ++ nodes_all l ts
unfolding nodes
nodes_join l none ts = refl
nodes_join l (more p ps) ts = ap (λ z. nodes l p ++ z) (nodes_join l ps ts) ∙ sym (append_assoc (nodes l p) (nodes_all l ps) (nodes_all l ts))

-- The nodes that have begun in open brackets, and in a state.
abbrev pub seen_in : List Frame → Nodes
seen_in [] = []
seen_in (f ∷ fs) = seen_in fs ++ ((f.at, length fs + 1) ∷ nodes_all (length fs + 1 + 1) f.parts)

abbrev pub seen_point : Point → Nodes
seen_point before = []
seen_point (inside f fs) = seen_in (f ∷ fs)
seen_point (after x) = nodes 1 x

abbrev pub seen_with : ℕ → List Frame → Nodes
seen_with o fs = seen_in fs ++ ((o, length fs + 1) ∷ [])

abbrev pub seen : State → Nodes
seen (between p) = seen_point p
seen (in_bracket o fs) = seen_with o fs
seen (in_symbol o from fs) = seen_with o fs
seen (in_quotes o fs) = seen_with o fs
seen (in_integer o n fs) = seen_with o fs

-- A tree's nodes are these and then some that stand from a spot on.
pub record Later (ns : Nodes) (z : Spot) (T : Tree) : Type 0 where
  pub later : Nodes
  pub all : nodes 1 T ≡ ns ++ later
  pub from : From z.place later

-- Some of these nodes are yet to come.
put_off : (ns ms : Nodes) (z y : Spot) (T : Tree) → z.place ≤ y.place → From z.place ms → Later (ns ++ ms) y T → Later ns z T
put_off ns ms z y T p f l = record { later = ms ++ l.later; all = l.all ∙ append_assoc ns ms l.later; from = from_append z.place ms l.later f (from_less z.place y.place p l.later l.from) }

relabel : (ns ms : Nodes) (z : Spot) (T : Tree) → ns ≡ ms → Later ns z T → Later ms z T
relabel ns ms z T e l = subst (λ k. Later k z T) e l

level_up : (n : ℕ) → suc n + 1 ≡ n + 1 + 1
level_up n = omega arith

within_seen : (f : Frame) (fs : List Frame) (ts : Trees) → seen_in fs ++ nodes (length fs + 1) (closing f ts) ≡ seen_in (f ∷ fs) ++ nodes_all (length fs + 1 + 1) ts
unfolding nodes
within_seen f fs ts =
    ap (λ z. seen_in fs ++ ((f.at, length fs + 1) ∷ z)) (nodes_join (length fs + 1 + 1) f.parts ts)
    ∙ sym (append_assoc (seen_in fs) ((f.at, length fs + 1) ∷ nodes_all (length fs + 1 + 1) f.parts) (nodes_all (length fs + 1 + 1) ts))

-- A whole term that is put into open brackets has begun with all its nodes.
pub seen_put : (x : Tree) (fs : List Frame) → seen_point (put x fs) ≡ seen_in fs ++ nodes (length fs + 1) x
unfolding nodes
seen_put x [] = refl
seen_put x (g ∷ gs) =
    ap (λ z. seen_in gs ++ ((g.at, length gs + 1) ∷ z)) (nodes_add (length gs + 1 + 1) g.parts x)
    ∙ sym (append_assoc (seen_in gs) ((g.at, length gs + 1) ∷ nodes_all (length gs + 1 + 1) g.parts) (nodes (length gs + 1 + 1) x))
    ∙ ap (λ l. seen_in (g ∷ gs) ++ nodes l x) (sym (level_up (length gs)))

finish_seen : (fs : List Frame) (x : Tree) (e : Spot) (T : Tree) → Finish fs x e T → Later (seen_in fs ++ nodes (length fs + 1) x) e T
finish_seen [] x e T (c, v, r, nil, q) = record { later = []; all = ap (nodes 1) (sym q) ∙ sym (append-nil (nodes 1 x)); from = tt }
finish_seen (g ∷ gs) x e T (ts, d, y, terms, cl, fin) =
    let t = terms_from ts (length gs + 1 + 1) e d terms in
    let p = t.1 in
    let k = cl.3 in
    relabel (seen_point (put x (g ∷ gs))) (seen_in (g ∷ gs) ++ nodes (suc (length gs) + 1) x) e T (seen_put x (g ∷ gs))
    (put_off (seen_in (grown g x ∷ gs)) (nodes_all (length gs + 1 + 1) ts) e y T (omega arith) t.0
    (relabel (seen_in gs ++ nodes (length gs + 1) (closing (grown g x) ts)) (seen_in (grown g x ∷ gs) ++ nodes_all (length gs + 1 + 1) ts) y T (within_seen (grown g x) gs ts)
    (finish_seen gs (closing (grown g x) ts) y T fin)))

inside_seen : (f : Frame) (fs : List Frame) (z : Spot) (T : Tree) → Within f fs z T → Later (seen_in (f ∷ fs)) z T
inside_seen f fs z T (ts, d, y, terms, cl, fin) =
    let t = terms_from ts (length fs + 1 + 1) z d terms in
    let p = t.1 in
    let k = cl.3 in
    put_off (seen_in (f ∷ fs)) (nodes_all (length fs + 1 + 1) ts) z y T (omega arith) t.0
    (relabel (seen_in fs ++ nodes (length fs + 1) (closing f ts)) (seen_in (f ∷ fs) ++ nodes_all (length fs + 1 + 1) ts) y T (within_seen f fs ts) (finish_seen fs (closing f ts) y T fin))

-- Later spots bring later nodes.
from_spot : (ns : Nodes) (z y : Spot) (T : Tree) → z.place ≤ y.place → Later ns y T → Later ns z T
from_spot ns z y T p l = record { later = l.later; all = l.all; from = from_less z.place y.place p l.later l.from }

pub completes_seen : (s : State) (z : Spot) (T : Tree) → Completes s z T → Later (seen s) z T
unfolding nodes
completes_seen (between before) z T (a, m, c, w, v, r, term, rv, nil) =
    let t = term_from T 1 a m term in
    let j = r.2 in
    record { later = nodes 1 T; all = refl; from = from_less z.place a.place (omega arith) (nodes 1 T) t.0 }
completes_seen (between (inside f fs)) z T h = inside_seen f fs z T h
completes_seen (between (after x)) z T (c, v, r, nil, e) = record { later = []; all = ap (nodes 1) (sym e) ∙ sym (append-nil (nodes 1 x)); from = tt }
completes_seen (in_bracket o fs) z T (c, d, w, s, r, rs, l, e, wi) =
    let i = r.2 in
    let j = rs.2 in
    from_spot (seen_with o fs) z d T (omega arith) (inside_seen (frame o (part c s)) fs d T wi)
completes_seen (in_symbol o from fs) z T (c, s, r, e, wi) =
    let i = r.2 in
    from_spot (seen_with o fs) z c T (omega arith) (inside_seen (frame o (record { at = from; len = c.place - from })) fs c T wi)
completes_seen (in_quotes o fs) z T (c, m, q, r, e, fin) =
    let i = r.2 in
    let j = e.3 in
    from_spot (seen_with o fs) z m T (omega arith) (finish_seen fs (quoted o (record { at = o + 1; len = c.place - (o + 1) })) m T fin)
completes_seen (in_integer o n fs) z T (y, ds, r, l, e, fin) =
    let i = r.2 in
    from_spot (seen_with o fs) z y T (omega arith) (finish_seen fs (integer o (value n ds)) y T fin)

-- A state whose term is whole has seen all of it.
pub finish_all : (s : State) (at : ℕ) (T : Tree) → finish at s ≡ Ok T → seen s ≡ nodes 1 T
unfolding nodes
finish_all (between before) at T h = let z : ◌≡◌ {A = ℕ} 0 1 = cc in absurd (omega arith)
finish_all (between (inside f fs)) at T h = let z : ◌≡◌ {A = ℕ} 0 1 = cc in absurd (omega arith)
finish_all (between (after x)) at T h = let e : x ≡ T = cc in ap (nodes 1) e
finish_all (in_bracket o fs) at T h = let z : ◌≡◌ {A = ℕ} 0 1 = cc in absurd (omega arith)
finish_all (in_symbol o from fs) at T h = let z : ◌≡◌ {A = ℕ} 0 1 = cc in absurd (omega arith)
finish_all (in_quotes o fs) at T h = let z : ◌≡◌ {A = ℕ} 0 1 = cc in absurd (omega arith)
finish_all (in_integer o n []) at T h = let e : integer o n ≡ T = cc in ap (nodes 1) e
finish_all (in_integer o n (f ∷ fs)) at T h = let z : ◌≡◌ {A = ℕ} 0 1 = cc in absurd (omega arith)

-- How many nodes have begun.
mutual
  unfolding nodes size

  length_nodes : (l : ℕ) (t : Tree) → length (nodes l t) ≡ size t
  length_nodes l (quoted at p) = refl
  length_nodes l (integer at n) = refl
  length_nodes l (bracket at s ts) = ap suc (length_nodes_all (l + 1) ts)

  length_nodes_all : (l : ℕ) (ts : Trees) → length (nodes_all l ts) ≡ sizes ts
  length_nodes_all l none = refl
  length_nodes_all l (more t ts) =
      let a = length_nodes l t in
      let b = length_nodes_all l ts in
      let c = length-append (nodes l t) (nodes_all l ts) in
      omega arith

pub length_seen : (fs : List Frame) → length (seen_in fs) ≡ count fs
unfolding count
length_seen [] = refl
length_seen (f ∷ fs) =
    let a = length_seen fs in
    let b = length_nodes_all (length fs + 1 + 1) f.parts in
    let c = length-append (seen_in fs) ((f.at, length fs + 1) ∷ nodes_all (length fs + 1 + 1) f.parts) in
    omega arith

-- What a step adds to the nodes that have begun: one node where one begins, and else none.
abbrev pub Adds : ℕ → Nodes → Step → Type 0
Adds at ns broken = Unit {0}
Adds at ns (goes s) = seen s ≡ ns
Adds at ns (begins fs s) = (seen s ≡ ns ++ ((at, length fs + 1) ∷ [])) × (ns ≡ seen_in fs)

adds_point : (at b : ℕ) (p : Point) (k : ByteClass) → Adds at (seen_point p) (step_between at p b k)
unfolding nodes
adds_point at b before Blank = refl
adds_point at b before Quote = (refl, refl)
adds_point at b before Open = (refl, refl)
adds_point at b before Close = tt
adds_point at b before Digit = (refl, refl)
adds_point at b before Backslash = tt
adds_point at b before Other = tt
adds_point at b (inside f fs) Blank = refl
adds_point at b (inside f fs) Quote = (refl, refl)
adds_point at b (inside f fs) Open = (refl, refl)
adds_point at b (inside f fs) Close = seen_put (closed f) fs
adds_point at b (inside f fs) Digit = (refl, refl)
adds_point at b (inside f fs) Backslash = tt
adds_point at b (inside f fs) Other = tt
adds_point at b (after x) Blank = refl
adds_point at b (after x) Quote = tt
adds_point at b (after x) Open = tt
adds_point at b (after x) Close = tt
adds_point at b (after x) Digit = tt
adds_point at b (after x) Backslash = tt
adds_point at b (after x) Other = tt

adds_bracket : (at o : ℕ) (fs : List Frame) (k : ByteClass) → Adds at (seen_with o fs) (step_bracket at o fs k)
adds_bracket at o fs Blank = refl
adds_bracket at o fs Quote = tt
adds_bracket at o fs Open = tt
adds_bracket at o fs Close = tt
adds_bracket at o fs Digit = refl
adds_bracket at o fs Backslash = refl
adds_bracket at o fs Other = refl

adds_symbol : (at b o from : ℕ) (fs : List Frame) (k : ByteClass) → Adds at (seen_with o fs) (step_symbol at o from fs b k)
unfolding nodes
adds_symbol at b o from fs Blank = adds_point at b (named at o from fs) Blank
adds_symbol at b o from fs Quote = adds_point at b (named at o from fs) Quote
adds_symbol at b o from fs Open = adds_point at b (named at o from fs) Open
adds_symbol at b o from fs Close = adds_point at b (named at o from fs) Close
adds_symbol at b o from fs Digit = refl
adds_symbol at b o from fs Backslash = refl
adds_symbol at b o from fs Other = refl

adds_quotes : (at o : ℕ) (fs : List Frame) (k : ByteClass) → Adds at (seen_with o fs) (step_quotes at o fs k)
unfolding nodes
adds_quotes at o fs Blank = refl
adds_quotes at o fs Quote = seen_put (quotation at o) fs
adds_quotes at o fs Open = refl
adds_quotes at o fs Close = refl
adds_quotes at o fs Digit = refl
adds_quotes at o fs Backslash = tt
adds_quotes at o fs Other = refl

adds_integer : (at b o n : ℕ) (fs : List Frame) (k : ByteClass) → Adds at (seen_with o fs) (step_integer at o n fs b k)
unfolding nodes
adds_integer at b o n fs Blank = subst (λ ns. Adds at ns (step_between at (put (integer o n) fs) b Blank)) (seen_put (integer o n) fs) (adds_point at b (put (integer o n) fs) Blank)
adds_integer at b o n fs Quote = subst (λ ns. Adds at ns (step_between at (put (integer o n) fs) b Quote)) (seen_put (integer o n) fs) (adds_point at b (put (integer o n) fs) Quote)
adds_integer at b o n fs Open = subst (λ ns. Adds at ns (step_between at (put (integer o n) fs) b Open)) (seen_put (integer o n) fs) (adds_point at b (put (integer o n) fs) Open)
adds_integer at b o n fs Close = subst (λ ns. Adds at ns (step_between at (put (integer o n) fs) b Close)) (seen_put (integer o n) fs) (adds_point at b (put (integer o n) fs) Close)
adds_integer at b o n fs Digit = elim (leb (n * 10 + (b - 48)) 4294967295) as (λ t. Adds at (seen_with o fs) (cond t (goes (in_integer o (n * 10 + (b - 48)) fs)) broken)) [ true ↦ refl | false ↦ tt ]
adds_integer at b o n fs Backslash = tt
adds_integer at b o n fs Other = tt

pub adds : (at b : ℕ) (s : State) → Adds at (seen s) (step at s b)
adds at b (between p) = adds_point at b p (class b)
adds at b (in_bracket o fs) = adds_bracket at o fs (class b)
adds at b (in_symbol o from fs) = adds_symbol at b o from fs (class b)
adds at b (in_quotes o fs) = adds_quotes at o fs (class b)
adds at b (in_integer o n fs) = adds_integer at b o n fs (class b)
