-- What the shape refuses is the first fault of a tree's nodes.
use Rattle.std.proofs.Common.{◌≡◌, ◌==◌, ℕ, zero, suc, ◌<◌, ◌≤◌, Bool, true, false, cond, leb, ◌||◌, List, [], ◌∷◌, ◌++◌, Some, Ok, Err, codes, sym, refl, ap, ap₂, ◌∙◌, ◌⊎◌, inl, inr, ⊎_elim, subst, arith}
use Rattle.std.proofs.lemmas.Bool.{ne_eqb, le-leb, lt-leb, cases_lt}
use Rattle.text.specs.declared.part.Part.{Part}
use Rattle.text.specs.Trees.{Tree, quoted, integer, bracket, Trees, none, more}
use Rattle.syntax.specs.declared.fault.ShapeFault.{ShapeFault}
use Rattle.syntax.specs.declared.fault.ShapeFault.TheVariants.{Limit, Misfit, NotCarried, NoName, NoMemory}
use Rattle.syntax.specs.declared.spec.Name.{Name}
use Rattle.syntax.specs.declared.symbol.Symbol.{Symbol}
use Rattle.syntax.specs.declared.symbol.Symbol.TheVariants as symbols
use Rattle.syntax.specs.Names.{is_name}
use Rattle.syntax.specs.Symbols.{symbol, found, carried, one_of, not_carried}
use Rattle.syntax.specs.Shape.{Shaped, and_then, bytes, parts_count, misfit, each, no_parts, at_most, a_name, names, vanilla, function_of, shared_as, type_of, shared_of, knows_of, everybody_of, declaration, declarations, declare, label, comm_of, line, lines, block, barred, empty, section, five_parts, specification, form, term, crypt_term, apply_term, terms, shape}
use Rattle.syntax.specs.Specs as tables
use Rattle.syntax.specs.Specs.{name, tuple, crypt, apply, Lined}
use Rattle.syntax.specs.declared.spec.Label.TheVariants as labels
use Prim.Native.String.{String}
use Rattle.syntax.specs.Seeing.{tuple_term, section_word}
use Rattle.syntax.specs.declared.symbol.Section.{Section}
use Rattle.syntax.specs.declared.symbol.Section.TheVariants as sections
use Rattle.syntax.specs.declared.symbol.FunctionClass.{FunctionClass}
use Rattle.syntax.proofs.Chains.{term_by, shared_by, declared_by, lined_by, function_type}
use Rattle.syntax.proofs.Chains as chains
use Rattle.syntax.proofs.Spelling.{spelled_so}
use Rattle.syntax.proofs.Spelled.{same_symbol, same_itself, carried_so, uncarried_so, spelled, section_found}
use Rattle.syntax.specs.TreeFaults.{Standing, is, is_function_type, belongs, takes_name, takes_integer, empty_list, inner_block, is_barred, right_count, few_parts, Faulty, number, part_of, Node, nodes, nodes_from, Sound, AllSound, FirstFault, ShapeLaw}
use Rattle.syntax.specs.TreeFaults as faults

abbrev Answer : Type 0
Answer = Shaped (Unit {0})

abbrev fine : Answer
fine = Ok tt

abbrev refused : ShapeFault → Answer
refused e = Err e

-- what a node alone gives, its parts aside
abbrev integer_alone : ℕ → Bool → Bool → Answer
integer_alone at b c = cond b (Err (NotCarried at)) (cond c fine (Err (Misfit at)))

abbrev quoted_alone : ℕ → Bool → Bool → Bool → Bool → Answer
quoted_alone at a b c d = cond a (cond b (Err (NotCarried at)) (cond c (cond d fine (Err (Limit at))) (Err (Misfit at)))) (Err (NoName at))

abbrev bracket_alone : ℕ → Bool → Bool → Bool → Bool → Answer
bracket_alone at b c n m = cond b (Err (NotCarried at)) (cond c (cond n (cond m fine (Err (Limit at))) (Err (Misfit at))) (Err (Misfit at)))

abbrev bracket_by : ℕ → ℕ → Standing → Symbol → Answer
bracket_by at n s y = bracket_alone at (is_barred s y) (belongs s y) (right_count y n) (few_parts y n)

module _ (text : List ℕ) where
  abbrev alone : Tree → Standing → Answer
  alone (quoted at p) s = quoted_alone at (is_name (bytes text p)) (empty_list s) (takes_name s) (leb p.len 31)
  alone (integer at v) s = integer_alone at (empty_list s) (takes_integer s)
  alone (bracket at w ts) s = bracket_by at (parts_count ts) s (symbol (bytes text w))

  abbrev first : List Node → Answer
  first [] = fine
  first (n ∷ ns) = and_then (alone n.tree n.standing) (λ x. first ns)

number_small : (f : ShapeFault) → number f ≤ 5
number_small (Limit at) = omega arith
number_small (Misfit at) = omega arith
number_small (NotCarried at) = omega arith
number_small (NoName at) = omega arith
number_small (NoMemory w) = omega arith

no : {b : Bool} {A : Type 0} → b ≡ true → b ≡ false → A
no e f = let g : true ≡ false = sym e ∙ f in absurd (cc)

abbrev Highest : List ℕ → Tree → Standing → ShapeFault → Type 0
Highest text t s f = Faulty text t s f × ((g : ShapeFault) → Faulty text t s g → number g ≤ number f)

module _ (text : List ℕ) where
  quoted_fault : (at : ℕ) (p : Part) (s : Standing) (f : ShapeFault) (a b c d : Bool) → is_name (bytes text p) ≡ a → empty_list s ≡ b → takes_name s ≡ c → leb p.len 31 ≡ d → quoted_alone at a b c d ≡ Err f → Highest text (quoted at p) s f
  quoted_fault at p s f false b c d ea eb ec ed e = let x : NoName at ≡ f = cc in subst (Highest text (quoted at p) s) x (faults.no_name ea, λ g h. number_small g)
  quoted_fault at p s f true true c d ea eb ec ed e = let x : NotCarried at ≡ f = cc in subst (Highest text (quoted at p) s) x (faults.name_barred eb, go)
    where
      go : (g : ShapeFault) → Faulty text (quoted at p) s g → number g ≤ 4
      go g (faults.no_name h) = no ea h
      go g (faults.name_barred h) = omega arith
      go g (faults.name_misplaced h) = omega arith
      go g (faults.name_long h) = omega arith
  quoted_fault at p s f true false false d ea eb ec ed e = let x : Misfit at ≡ f = cc in subst (Highest text (quoted at p) s) x (faults.name_misplaced ec, go)
    where
      go : (g : ShapeFault) → Faulty text (quoted at p) s g → number g ≤ 3
      go g (faults.no_name h) = no ea h
      go g (faults.name_barred h) = no h eb
      go g (faults.name_misplaced h) = omega arith
      go g (faults.name_long h) = omega arith
  quoted_fault at p s f true false true false ea eb ec ed e = let x : Limit at ≡ f = cc in subst (Highest text (quoted at p) s) x (faults.name_long ed, go)
    where
      go : (g : ShapeFault) → Faulty text (quoted at p) s g → number g ≤ 1
      go g (faults.no_name h) = no ea h
      go g (faults.name_barred h) = no h eb
      go g (faults.name_misplaced h) = no ec h
      go g (faults.name_long h) = omega arith
  quoted_fault at p s f true false true true ea eb ec ed e = absurd (cc)

  quoted_fine : (at : ℕ) (p : Part) (s : Standing) (f : ShapeFault) (a b c d : Bool) → is_name (bytes text p) ≡ a → empty_list s ≡ b → takes_name s ≡ c → leb p.len 31 ≡ d → quoted_alone at a b c d ≡ fine → Faulty text (quoted at p) s f → ⊥
  quoted_fine at p s f false b c d ea eb ec ed e h = absurd (cc)
  quoted_fine at p s f true true c d ea eb ec ed e h = absurd (cc)
  quoted_fine at p s f true false false d ea eb ec ed e h = absurd (cc)
  quoted_fine at p s f true false true false ea eb ec ed e h = absurd (cc)
  quoted_fine at p s f true false true true ea eb ec ed e (faults.no_name h) = no ea h
  quoted_fine at p s f true false true true ea eb ec ed e (faults.name_barred h) = no h eb
  quoted_fine at p s f true false true true ea eb ec ed e (faults.name_misplaced h) = no ec h
  quoted_fine at p s f true false true true ea eb ec ed e (faults.name_long h) = no ed h

  integer_fault : (at v : ℕ) (s : Standing) (f : ShapeFault) (b c : Bool) → empty_list s ≡ b → takes_integer s ≡ c → integer_alone at b c ≡ Err f → Highest text (integer at v) s f
  integer_fault at v s f true c eb ec e = let x : NotCarried at ≡ f = cc in subst (Highest text (integer at v) s) x (faults.integer_barred eb, go)
    where
      go : (g : ShapeFault) → Faulty text (integer at v) s g → number g ≤ 4
      go g (faults.integer_barred h) = omega arith
      go g (faults.integer_misplaced h) = omega arith
  integer_fault at v s f false false eb ec e = let x : Misfit at ≡ f = cc in subst (Highest text (integer at v) s) x (faults.integer_misplaced ec, go)
    where
      go : (g : ShapeFault) → Faulty text (integer at v) s g → number g ≤ 3
      go g (faults.integer_barred h) = no h eb
      go g (faults.integer_misplaced h) = omega arith
  integer_fault at v s f false true eb ec e = absurd (cc)

  integer_fine : (at v : ℕ) (s : Standing) (f : ShapeFault) (b c : Bool) → empty_list s ≡ b → takes_integer s ≡ c → integer_alone at b c ≡ fine → Faulty text (integer at v) s f → ⊥
  integer_fine at v s f true c eb ec e h = absurd (cc)
  integer_fine at v s f false false eb ec e h = absurd (cc)
  integer_fine at v s f false true eb ec e (faults.integer_barred h) = no h eb
  integer_fine at v s f false true eb ec e (faults.integer_misplaced h) = no ec h

  module _ (at : ℕ) (w : Part) (ts : Trees) (s : Standing) where
    abbrev here : Symbol
    here = symbol (bytes text w)

    bracket_fault : (f : ShapeFault) (b c n m : Bool) → is_barred s here ≡ b → belongs s here ≡ c → right_count here (parts_count ts) ≡ n → few_parts here (parts_count ts) ≡ m → bracket_alone at b c n m ≡ Err f → Highest text (bracket at w ts) s f
    bracket_fault f true c n m eb ec en em e = let x : NotCarried at ≡ f = cc in subst (Highest text (bracket at w ts) s) x (faults.bracket_barred eb, go)
      where
        go : (g : ShapeFault) → Faulty text (bracket at w ts) s g → number g ≤ 4
        go g (faults.bracket_barred h) = omega arith
        go g (faults.bracket_misplaced h) = omega arith
        go g (faults.wrong_count h) = omega arith
        go g (faults.many_parts h) = omega arith
    bracket_fault f false false n m eb ec en em e = let x : Misfit at ≡ f = cc in subst (Highest text (bracket at w ts) s) x (faults.bracket_misplaced ec, go)
      where
        go : (g : ShapeFault) → Faulty text (bracket at w ts) s g → number g ≤ 3
        go g (faults.bracket_barred h) = no h eb
        go g (faults.bracket_misplaced h) = omega arith
        go g (faults.wrong_count h) = omega arith
        go g (faults.many_parts h) = omega arith
    bracket_fault f false true false m eb ec en em e = let x : Misfit at ≡ f = cc in subst (Highest text (bracket at w ts) s) x (faults.wrong_count en, go)
      where
        go : (g : ShapeFault) → Faulty text (bracket at w ts) s g → number g ≤ 3
        go g (faults.bracket_barred h) = no h eb
        go g (faults.bracket_misplaced h) = omega arith
        go g (faults.wrong_count h) = omega arith
        go g (faults.many_parts h) = omega arith
    bracket_fault f false true true false eb ec en em e = let x : Limit at ≡ f = cc in subst (Highest text (bracket at w ts) s) x (faults.many_parts em, go)
      where
        go : (g : ShapeFault) → Faulty text (bracket at w ts) s g → number g ≤ 1
        go g (faults.bracket_barred h) = no h eb
        go g (faults.bracket_misplaced h) = no ec h
        go g (faults.wrong_count h) = no en h
        go g (faults.many_parts h) = omega arith
    bracket_fault f false true true true eb ec en em e = absurd (cc)

    bracket_fine : (f : ShapeFault) (b c n m : Bool) → is_barred s here ≡ b → belongs s here ≡ c → right_count here (parts_count ts) ≡ n → few_parts here (parts_count ts) ≡ m → bracket_alone at b c n m ≡ fine → Faulty text (bracket at w ts) s f → ⊥
    bracket_fine f true c n m eb ec en em e h = absurd (cc)
    bracket_fine f false false n m eb ec en em e h = absurd (cc)
    bracket_fine f false true false m eb ec en em e h = absurd (cc)
    bracket_fine f false true true false eb ec en em e h = absurd (cc)
    bracket_fine f false true true true eb ec en em e (faults.bracket_barred h) = no h eb
    bracket_fine f false true true true eb ec en em e (faults.bracket_misplaced h) = no ec h
    bracket_fine f false true true true eb ec en em e (faults.wrong_count h) = no en h
    bracket_fine f false true true true eb ec en em e (faults.many_parts h) = no em h

  alone_fault : (t : Tree) (s : Standing) (f : ShapeFault) → alone text t s ≡ Err f → Highest text t s f
  alone_fault (quoted at p) s f e = quoted_fault at p s f (is_name (bytes text p)) (empty_list s) (takes_name s) (leb p.len 31) refl refl refl refl e
  alone_fault (integer at v) s f e = integer_fault at v s f (empty_list s) (takes_integer s) refl refl e
  alone_fault (bracket at w ts) s f e =
      bracket_fault at w ts s f (is_barred s (symbol (bytes text w))) (belongs s (symbol (bytes text w))) (right_count (symbol (bytes text w)) (parts_count ts)) (few_parts (symbol (bytes text w)) (parts_count ts)) refl refl refl refl e

  alone_fine : (t : Tree) (s : Standing) (f : ShapeFault) → alone text t s ≡ fine → Faulty text t s f → ⊥
  alone_fine (quoted at p) s f e h = quoted_fine at p s f (is_name (bytes text p)) (empty_list s) (takes_name s) (leb p.len 31) refl refl refl refl e h
  alone_fine (integer at v) s f e h = integer_fine at v s f (empty_list s) (takes_integer s) refl refl e h
  alone_fine (bracket at w ts) s f e h =
      bracket_fine at w ts s f (is_barred s (symbol (bytes text w))) (belongs s (symbol (bytes text w))) (right_count (symbol (bytes text w)) (parts_count ts)) (few_parts (symbol (bytes text w)) (parts_count ts)) refl refl refl refl e h

-- the place of a tree's node, and a fault there by its number
abbrev place : Tree → ℕ
place (quoted at p) = at
place (integer at v) = at
place (bracket at w ts) = at

abbrev made : ℕ → ℕ → ShapeFault
made (suc zero) at = Limit at
made (suc (suc (suc zero))) at = Misfit at
made (suc (suc (suc (suc zero)))) at = NotCarried at
made n at = NoName at

module _ (text : List ℕ) where
  made_here : (t : Tree) (s : Standing) (f : ShapeFault) → Faulty text t s f → f ≡ made (number f) (place t)
  made_here (quoted at p) s f (faults.no_name h) = refl
  made_here (quoted at p) s f (faults.name_barred h) = refl
  made_here (quoted at p) s f (faults.name_misplaced h) = refl
  made_here (quoted at p) s f (faults.name_long h) = refl
  made_here (integer at v) s f (faults.integer_barred h) = refl
  made_here (integer at v) s f (faults.integer_misplaced h) = refl
  made_here (bracket at w ts) s f (faults.bracket_barred h) = refl
  made_here (bracket at w ts) s f (faults.bracket_misplaced h) = refl
  made_here (bracket at w ts) s f (faults.wrong_count h) = refl
  made_here (bracket at w ts) s f (faults.many_parts h) = refl

  same_fault : (t : Tree) (s : Standing) (f g : ShapeFault) → Highest text t s f → Highest text t s g → f ≡ g
  same_fault t s f g h k =
      let a = h.1 g k.0 in
      let b = k.1 f h.0 in
      let e : number f ≡ number g = omega arith in
      made_here t s f h.0 ∙ ap (λ n. made n (place t)) e ∙ sym (made_here t s g k.0)

  -- the first fault of some nodes
  first_fault : (ns : List Node) (f : ShapeFault) → first text ns ≡ Err f → FirstFault text ns f
  first_fault [] f e = absurd (cc)
  first_fault (n ∷ ns) f e = go (first_fault ns f) (alone text n.tree n.standing) refl e
    where
      go : (first text ns ≡ Err f → FirstFault text ns f) → (a : Answer) → alone text n.tree n.standing ≡ a → and_then a (λ x. first text ns) ≡ Err f → FirstFault text (n ∷ ns) f
      go later (Err g) q e = let h = alone_fault text n.tree n.standing f (q ∙ e) in record { before = []; node = n; after = ns; all = refl; sound = tt; faulty = h.0; highest = h.1 }
      go later (Ok tt) q e =
          let r = later e in
          record { before = n ∷ r.before; node = r.node; after = r.after; all = ap (λ l. n ∷ l) r.all; sound = (λ g h. alone_fine text n.tree n.standing g q h, r.sound); faulty = r.faulty; highest = r.highest }

  sound_fine : (n : Node) → Sound text n → alone text n.tree n.standing ≡ fine
  sound_fine n s = go (alone text n.tree n.standing) refl
    where
      go : (a : Answer) → alone text n.tree n.standing ≡ a → a ≡ fine
      go (Ok tt) q = refl
      go (Err g) q = absurd (s g (alone_fault text n.tree n.standing g q).0)

  faulty_first : (before : List Node) (n : Node) (after : List Node) (f : ShapeFault) → AllSound text before → Highest text n.tree n.standing f → first text (before ++ (n ∷ after)) ≡ Err f
  faulty_first [] n after f s h = ap (λ a. and_then a (λ x. first text after)) (go (alone text n.tree n.standing) refl)
    where
      go : (a : Answer) → alone text n.tree n.standing ≡ a → a ≡ Err f
      go (Ok tt) q = absurd (alone_fine text n.tree n.standing f q h.0)
      go (Err g) q = ap Err (same_fault n.tree n.standing g f (alone_fault text n.tree n.standing g q) h)
  faulty_first (x ∷ before) n after f s h = ap (λ a. and_then a (λ y. first text (before ++ (n ∷ after)))) (sound_fine x s.0) ∙ faulty_first before n after f s.1 h

-- an answer without its value
abbrev forget : {A : Type 0} → Shaped A → Answer
forget (Ok x) = fine
forget (Err e) = Err e

abbrev then : Answer → Answer → Answer
then a b = and_then a (λ x. b)

forget_then : {A B : Type 0} (o : Shaped A) (f : A → Shaped B) (r : Answer) → ((x : A) → forget (f x) ≡ r) → forget (and_then o f) ≡ then (forget o) r
forget_then (Ok x) f r h = h x
forget_then (Err e) f r h = refl

then_assoc : (a b c : Answer) → then (then a b) c ≡ then a (then b c)
then_assoc (Ok x) b c = refl
then_assoc (Err e) b c = refl

then_fine : (a : Answer) → then a fine ≡ a
then_fine (Ok tt) = refl
then_fine (Err e) = refl

-- the count of a bracket's parts is wrong, or right
wrong_parts : (at : ℕ) (b m : Bool) (r : Answer) → b ≡ false → refused (Misfit at) ≡ then (bracket_alone at false true b m) r
wrong_parts at b m r e = sym (ap (λ b. then (bracket_alone at false true b m) r) e)

right_parts : (at : ℕ) (b m : Bool) (r : Answer) → b ≡ true → cond m r (refused (Limit at)) ≡ then (bracket_alone at false true b m) r
right_parts at b m r e = go m ∙ sym (ap (λ b. then (bracket_alone at false true b m) r) e)
  where
    go : (m : Bool) → cond m r (refused (Limit at)) ≡ then (bracket_alone at false true true m) r
    go true = refl
    go false = refl

first_join : (text : List ℕ) (xs ys : List Node) → first text (xs ++ ys) ≡ then (first text xs) (first text ys)
first_join text [] ys = refl
first_join text (x ∷ xs) ys = ap (then (alone text x.tree x.standing)) (first_join text xs ys) ∙ sym (then_assoc (alone text x.tree x.standing) (first text xs) (first text ys))

-- symbols
is_so : (x y : Symbol) → is x y ≡ true → x ≡ y
is_so x y h = same_symbol x y h

not_carried_is : (word : List ℕ) → one_of word not_carried ≡ is (symbol word) symbols.NotCarried
not_carried_is word = go (is (symbol word) symbols.NotCarried) refl
  where
    go : (b : Bool) → is (symbol word) symbols.NotCarried ≡ b → one_of word not_carried ≡ b
    go true q = uncarried_so word (is_so (symbol word) symbols.NotCarried q)
    go false q = carried_so word (λ e. no (ap (λ y. is y symbols.NotCarried) e ∙ same_itself symbols.NotCarried) q)

module _ (text : List ℕ) where
  abbrev faults_of : Tree → Standing → Answer
  faults_of t s = first text (nodes text t s)

  -- a bracket that is no translated form, or does not belong where it stands
  misfit_bracket : (at : ℕ) (w : Part) (ts : Trees) (s : Standing) → empty_list s ≡ false → inner_block s (symbol (bytes text w)) ≡ false → belongs s (symbol (bytes text w)) ≡ false
      → Err (misfit text (bracket at w ts)) ≡ faults_of (bracket at w ts) s
  misfit_bracket at w ts s a b c =
      ap (λ b. Err (cond b (NotCarried at) (Misfit at))) (not_carried_is (bytes text w)) ∙ go (is (symbol (bytes text w)) symbols.NotCarried)
      ∙ sym (ap (λ z. then z (first text (nodes_from text (part_of (symbol (bytes text w))) zero ts)))
      (ap (λ z. bracket_alone at (z || inner_block s (symbol (bytes text w)) || is (symbol (bytes text w)) symbols.NotCarried) (belongs s (symbol (bytes text w))) (right_count (symbol (bytes text w)) (parts_count ts)) (few_parts (symbol (bytes text w)) (parts_count ts))) a
      ∙ ap (λ z. bracket_alone at (false || z || is (symbol (bytes text w)) symbols.NotCarried) (belongs s (symbol (bytes text w))) (right_count (symbol (bytes text w)) (parts_count ts)) (few_parts (symbol (bytes text w)) (parts_count ts))) b
      ∙ ap (λ z. bracket_alone at (is (symbol (bytes text w)) symbols.NotCarried) z (right_count (symbol (bytes text w)) (parts_count ts)) (few_parts (symbol (bytes text w)) (parts_count ts))) c))
    where
      go : (b : Bool) → refused (cond b (NotCarried at) (Misfit at)) ≡ then (bracket_alone at b false (right_count (symbol (bytes text w)) (parts_count ts)) (few_parts (symbol (bytes text w)) (parts_count ts))) (first text (nodes_from text (part_of (symbol (bytes text w))) zero ts))
      go true = refl
      go false = refl

  -- a name
  quoted_name : (at : ℕ) (p : Part) (s : Standing) → empty_list s ≡ false → takes_name s ≡ true → forget (a_name text (quoted at p)) ≡ faults_of (quoted at p) s
  quoted_name at p s a b =
      go (is_name (bytes text p)) (leb p.len 31)
      ∙ sym (then_fine (alone text (quoted at p) s) ∙ ap (λ z. quoted_alone at (is_name (bytes text p)) z (takes_name s) (leb p.len 31)) a ∙ ap (λ z. quoted_alone at (is_name (bytes text p)) false z (leb p.len 31)) b)
    where
      go : (a d : Bool) → forget {A = Name} (cond a (cond d (Ok (record { at = at; part = p })) (Err (Limit at))) (Err (NoName at))) ≡ quoted_alone at a false true d
      go true true = refl
      go true false = refl
      go false d = refl

  name_faults : (t : Tree) → forget (a_name text t) ≡ faults_of t faults.name
  name_faults (quoted at p) = quoted_name at p faults.name refl refl
  name_faults (integer at v) = refl
  name_faults (bracket at w ts) = misfit_bracket at w ts faults.name refl refl refl

  -- several names
  names_faults : (f : ℕ → Standing) → ((n : ℕ) → f n ≡ faults.name) → (n : ℕ) (ts : Trees) → forget (each (a_name text) ts) ≡ first text (nodes_from text f n ts)
  unfolding each
  names_faults f e n none = refl
  names_faults f e n (more t ts) =
      forget_then (a_name text t) (λ x. and_then (each (a_name text) ts) (λ xs. Ok (x ∷ xs))) (forget (each (a_name text) ts)) (λ x. forget_then (each (a_name text) ts) (λ xs. Ok (x ∷ xs)) fine (λ xs. refl) ∙ then_fine (forget (each (a_name text) ts)))
      ∙ ap₂ then (name_faults t ∙ ap (faults_of t) (sym (e n))) (names_faults f e (suc n) ts) ∙ sym (first_join text (nodes text t (f n)) (nodes_from text f (suc n) ts))

  -- what a bracket gives, by its symbol
  bracket_faults : (at : ℕ) (w : Part) (ts : Trees) (s : Standing) (y : Symbol) → symbol (bytes text w) ≡ y → faults_of (bracket at w ts) s ≡ then (bracket_by at (parts_count ts) s y) (first text (nodes_from text (part_of y) zero ts))
  bracket_faults at w ts s y e = ap (λ z. then (bracket_by at (parts_count ts) s z) (first text (nodes_from text (part_of z) zero ts))) e

  -- the mark of a ciphertext
  mark_faults : (t : Tree) → forget (vanilla text t) ≡ faults_of t faults.mark
  unfolding found
  mark_faults (quoted at p) = go (is_name (bytes text p))
    where
      go : (a : Bool) → refused (cond a (Misfit at) (NoName at)) ≡ then (quoted_alone at a false false (leb p.len 31)) fine
      go true = refl
      go false = refl
  mark_faults (integer at v) = refl
  mark_faults (bracket at w ts) = go (is (symbol (bytes text w)) symbols.Vanilla) refl
    where
      go : (b : Bool) → is (symbol (bytes text w)) symbols.Vanilla ≡ b → forget (vanilla text (bracket at w ts)) ≡ faults_of (bracket at w ts) faults.mark
      go true q =
          let y = is_so (symbol (bytes text w)) symbols.Vanilla q in
          ap (λ c. forget (cond c (no_parts at ts (Ok tt)) (Err (misfit text (bracket at w ts))))) (spelled (bytes text w) (codes "vanilla") symbols.Vanilla (symbol (bytes text w)) refl refl ∙ q)
          ∙ by ts ∙ sym (bracket_faults at w ts faults.mark symbols.Vanilla y)
        where
          by : (ts : Trees) → forget (no_parts at ts fine) ≡ then (bracket_by at (parts_count ts) faults.mark symbols.Vanilla) (first text (nodes_from text (part_of symbols.Vanilla) zero ts))
          by none = refl
          by (more t ts) = wrong_parts at (parts_count (more t ts) == 0) true (first text (nodes_from text (part_of symbols.Vanilla) zero (more t ts))) (ne_eqb (parts_count (more t ts)) 0 (λ e. absurd (omega arith)))
      go false q =
          ap (λ c. forget (cond c (no_parts at ts (Ok tt)) (Err (misfit text (bracket at w ts))))) (spelled (bytes text w) (codes "vanilla") symbols.Vanilla (symbol (bytes text w)) refl refl ∙ q)
          ∙ misfit_bracket at w ts faults.mark refl refl q

  -- what stands behind a name
  behind_name : (k : ℕ) → suc zero ≤ k → part_of symbols.Apply k ≡ faults.term
  behind_name zero l = absurd (omega arith)
  behind_name (suc k) l = refl

  one_more_part : (n : ℕ) → leb n 8 ≡ leb (suc n) 9
  one_more_part n = ⊎_elim (λ l. le-leb n 8 l ∙ sym (le-leb (suc n) 9 (omega arith))) (λ g. lt-leb n 8 g ∙ sym (lt-leb (suc n) 9 (omega arith))) (cases n 8)
    where
      cases : (n m : ℕ) → (n ≤ m) ⊎ (m < n)
      cases n m = ⊎_elim (λ l. inr l) (λ g. inl (omega arith)) (cases_lt m n)

  -- within a limit
  limited : {A : Type 0} (k at : ℕ) (ts : Trees) (o : Shaped A) → forget (at_most k at ts o) ≡ cond (leb (parts_count ts) k) (forget o) (refused (Limit at))
  limited k at ts o = go (leb (parts_count ts) k)
    where
      go : (b : Bool) → forget (cond b o (Err (Limit at))) ≡ cond b (forget o) (refused (Limit at))
      go true = refl
      go false = refl

  -- a term's bracket, by its symbol
  module _ (at : ℕ) (w : Part) (ts : Trees) where
    abbrev read_as : Symbol → Answer
    read_as z = forget (term_by text (bracket at w ts) at ts z)

    term_symbol : forget (tuple_term text at ts) ≡ then (bracket_by at (parts_count ts) faults.term symbols.Tuple) (first text (nodes_from text (part_of symbols.Tuple) zero ts))
        → forget (crypt_term text at ts) ≡ then (bracket_by at (parts_count ts) faults.term symbols.Crypt) (first text (nodes_from text (part_of symbols.Crypt) zero ts))
        → forget (apply_term text at ts) ≡ then (bracket_by at (parts_count ts) faults.term symbols.Apply) (first text (nodes_from text (part_of symbols.Apply) zero ts))
        → forget (term_by text (bracket at w ts) at ts (symbol (bytes text w))) ≡ faults_of (bracket at w ts) faults.term
    term_symbol ht hc ha = tupled (is (symbol (bytes text w)) symbols.Tuple) refl
      where
        applied : (b : Bool) → is (symbol (bytes text w)) symbols.Tuple ≡ false → is (symbol (bytes text w)) symbols.Crypt ≡ false → is (symbol (bytes text w)) symbols.Apply ≡ b → read_as (symbol (bytes text w)) ≡ faults_of (bracket at w ts) faults.term
        applied true q r u = let e = is_so (symbol (bytes text w)) symbols.Apply u in ap read_as e ∙ ha ∙ sym (bracket_faults at w ts faults.term symbols.Apply e)
        applied false q r u =
            let h : read_as (symbol (bytes text w)) ≡ refused (misfit text (bracket at w ts)) = rw (q, r, u) refl in
            let b : belongs faults.term (symbol (bytes text w)) ≡ false = rw (q, r, u) refl in
            h ∙ misfit_bracket at w ts faults.term refl refl b

        crypted : (b : Bool) → is (symbol (bytes text w)) symbols.Tuple ≡ false → is (symbol (bytes text w)) symbols.Crypt ≡ b → read_as (symbol (bytes text w)) ≡ faults_of (bracket at w ts) faults.term
        crypted true q r = let e = is_so (symbol (bytes text w)) symbols.Crypt r in ap read_as e ∙ hc ∙ sym (bracket_faults at w ts faults.term symbols.Crypt e)
        crypted false q r = applied (is (symbol (bytes text w)) symbols.Apply) q r refl

        tupled : (b : Bool) → is (symbol (bytes text w)) symbols.Tuple ≡ b → read_as (symbol (bytes text w)) ≡ faults_of (bracket at w ts) faults.term
        tupled true q = let e = is_so (symbol (bytes text w)) symbols.Tuple q in ap read_as e ∙ ht ∙ sym (bracket_faults at w ts faults.term symbols.Tuple e)
        tupled false q = crypted (is (symbol (bytes text w)) symbols.Crypt) q refl

  tuple_faults : (at : ℕ) (ts : Trees) → forget (terms text ts) ≡ first text (nodes_from text (part_of symbols.Tuple) zero ts) → forget (tuple_term text at ts) ≡ then (bracket_by at (parts_count ts) faults.term symbols.Tuple) (first text (nodes_from text (part_of symbols.Tuple) zero ts))
  tuple_faults at ts h =
      limited 8 at ts (and_then (terms text ts) (λ us. Ok (tuple at us)))
      ∙ ap (λ o. cond (leb (parts_count ts) 8) o (refused (Limit at))) (forget_then (terms text ts) (λ us. Ok (tuple at us)) fine (λ us. refl) ∙ then_fine (forget (terms text ts)) ∙ h)
      ∙ right_parts at true (leb (parts_count ts) 8) (first text (nodes_from text (part_of symbols.Tuple) zero ts)) refl

  -- a term
  mutual
    unfolding term found

    term_faults : (t : Tree) → forget (term text t) ≡ faults_of t faults.term
    term_faults (quoted at p) = forget_then (a_name text (quoted at p)) (λ n. Ok (name at p)) fine (λ n. refl) ∙ then_fine (forget (a_name text (quoted at p))) ∙ quoted_name at p faults.term refl refl
    term_faults (integer at v) = refl
    term_faults (bracket at w ts) =
        ap forget (chains.bracket_by text at w ts (symbol (bytes text w)) refl) ∙ term_symbol at w ts (tuple_faults at ts (terms_faults (part_of symbols.Tuple) zero (λ k l. refl) ts)) (crypt_faults at ts) (apply_faults at ts)

    terms_faults : (f : ℕ → Standing) (n : ℕ) → ((k : ℕ) → n ≤ k → f k ≡ faults.term) → (ts : Trees) → forget (terms text ts) ≡ first text (nodes_from text f n ts)
    terms_faults f n e none = refl
    terms_faults f n e (more t ts) =
        forget_then (term text t) (λ x. and_then (terms text ts) (λ xs. Ok (tables.more x xs))) (forget (terms text ts)) (λ x. forget_then (terms text ts) (λ xs. Ok (tables.more x xs)) fine (λ xs. refl) ∙ then_fine (forget (terms text ts)))
        ∙ ap₂ then (term_faults t ∙ ap (faults_of t) (sym (e n (omega arith)))) (terms_faults f (suc n) (λ k l. e k (omega arith)) ts) ∙ sym (first_join text (nodes text t (f n)) (nodes_from text f (suc n) ts))

    crypt_faults : (at : ℕ) (ts : Trees) → forget (crypt_term text at ts) ≡ then (bracket_by at (parts_count ts) faults.term symbols.Crypt) (first text (nodes_from text (part_of symbols.Crypt) zero ts))
    crypt_faults at none = refl
    crypt_faults at (more a none) = refl
    crypt_faults at (more a (more b none)) = refl
    crypt_faults at (more a (more b (more c none))) =
        forget_then (term text a) (λ x. and_then (term text b) (λ y. and_then (vanilla text c) (λ _. Ok (crypt at x y)))) (then (forget (term text b)) (forget (vanilla text c)))
        (λ x. forget_then (term text b) (λ y. and_then (vanilla text c) (λ _. Ok (crypt at x y))) (forget (vanilla text c)) (λ y. forget_then (vanilla text c) (λ _. Ok (crypt at x y)) fine (λ _. refl) ∙ then_fine (forget (vanilla text c))))
        ∙ ap₂ then (term_faults a) (ap₂ then (term_faults b) (mark_faults c))
        ∙ sym (first_join text (nodes text a faults.term) (nodes text b faults.term ++ (nodes text c faults.mark ++ []))
        ∙ ap (then (faults_of a faults.term)) (first_join text (nodes text b faults.term) (nodes text c faults.mark ++ []) ∙ ap (then (faults_of b faults.term)) (first_join text (nodes text c faults.mark) [] ∙ then_fine (faults_of c faults.mark))))
    crypt_faults at (more a (more b (more c (more d ts)))) =
        wrong_parts at (parts_count (more a (more b (more c (more d ts)))) == 3) true (first text (nodes_from text (part_of symbols.Crypt) zero (more a (more b (more c (more d ts)))))) (ne_eqb (parts_count (more a (more b (more c (more d ts))))) 3 (λ e. absurd (omega arith)))

    apply_faults : (at : ℕ) (ts : Trees) → forget (apply_term text at ts) ≡ then (bracket_by at (parts_count ts) faults.term symbols.Apply) (first text (nodes_from text (part_of symbols.Apply) zero ts))
    apply_faults at none = refl
    apply_faults at (more f ts) =
        limited 8 at ts (and_then (a_name text f) (λ n. and_then (terms text ts) (λ us. Ok (apply at n us))))
        ∙ ap (λ o. cond (leb (parts_count ts) 8) o (refused (Limit at)))
        (forget_then (a_name text f) (λ n. and_then (terms text ts) (λ us. Ok (apply at n us))) (forget (terms text ts)) (λ n. forget_then (terms text ts) (λ us. Ok (apply at n us)) fine (λ us. refl) ∙ then_fine (forget (terms text ts)))
        ∙ ap₂ then (name_faults f) (terms_faults (part_of symbols.Apply) (suc zero) behind_name ts) ∙ sym (first_join text (nodes text f faults.name) (nodes_from text (part_of symbols.Apply) (suc zero) ts)))
        ∙ ap (λ b. cond b (first text (nodes_from text (part_of symbols.Apply) zero (more f ts))) (refused (Limit at))) (one_more_part (parts_count ts))
        ∙ right_parts at (leb 1 (parts_count (more f ts))) (leb (parts_count (more f ts)) 9) (first text (nodes_from text (part_of symbols.Apply) zero (more f ts))) (le-leb 1 (parts_count (more f ts)) (omega arith))

  -- a list of two steps with nothing behind
  two_steps : {A B C : Type 0} (o : Shaped A) (q : A → Shaped B) (r : Answer) (f : A → B → C) → ((x : A) → forget (q x) ≡ r) → forget (and_then o (λ x. and_then (q x) (λ y. Ok (f x y)))) ≡ then (forget o) r
  two_steps o q r f h = forget_then o (λ x. and_then (q x) (λ y. Ok (f x y))) r (λ x. forget_then (q x) (λ y. Ok (f x y)) fine (λ y. refl) ∙ then_fine (forget (q x)) ∙ h x)

  two_nodes : (t u : Tree) (s s' : Standing) → first text (nodes text t s ++ (nodes text u s' ++ [])) ≡ then (faults_of t s) (faults_of u s')
  two_nodes t u s s' = first_join text (nodes text t s) (nodes text u s' ++ []) ∙ ap (then (faults_of t s)) (first_join text (nodes text u s') [] ∙ then_fine (faults_of u s'))

  more_than : (n m : ℕ) → m < n → (n == m) ≡ false
  more_than n m h = ne_eqb n m (λ e. absurd (omega arith))

  -- a function type
  function_faults : (n : Name) (c : FunctionClass) (at : ℕ) (ts : Trees) → forget (function_of text n c.secret c.one_way at ts) ≡ then (bracket_by at (parts_count ts) faults.shared_type (symbols.FunctionType c)) (first text (nodes_from text (part_of (symbols.FunctionType c)) zero ts))
  unfolding names
  function_faults n c at none = refl
  function_faults n c at (more r ts) =
      limited 8 at ts (and_then (a_name text r) (λ result. and_then (names text ts) (λ parameters. Ok (tables.function n (record { secret = c.secret; one_way = c.one_way }) result parameters))))
      ∙ ap (λ o. cond (leb (parts_count ts) 8) o (refused (Limit at)))
      (two_steps (a_name text r) (λ x. names text ts) (forget (names text ts)) (λ x y. tables.function n (record { secret = c.secret; one_way = c.one_way }) x y) (λ x. refl)
      ∙ ap₂ then (name_faults r) (names_faults (part_of (symbols.FunctionType c)) (λ n. refl) (suc zero) ts) ∙ sym (first_join text (nodes text r faults.name) (nodes_from text (part_of (symbols.FunctionType c)) (suc zero) ts)))
      ∙ ap (λ b. cond b (first text (nodes_from text (part_of (symbols.FunctionType c)) zero (more r ts))) (refused (Limit at))) (one_more_part (parts_count ts))
      ∙ right_parts at (leb 1 (parts_count (more r ts))) (leb (parts_count (more r ts)) 9) (first text (nodes_from text (part_of (symbols.FunctionType c)) zero (more r ts))) (le-leb 1 (parts_count (more r ts)) (omega arith))

  -- the type of a shared name
  module _ (n : Name) (at : ℕ) (w : Part) (ts : Trees) where
    abbrev shared_as_symbol : Symbol → Answer
    shared_as_symbol z = forget (shared_by text n (bracket at w ts) at ts z)

    typed_as : (c : FunctionClass) → symbol (bytes text w) ≡ symbols.FunctionType c → shared_as_symbol (symbols.FunctionType c) ≡ forget (function_of text n c.secret c.one_way at ts) → shared_as_symbol (symbol (bytes text w)) ≡ faults_of (bracket at w ts) faults.shared_type
    typed_as c e h = ap shared_as_symbol e ∙ h ∙ function_faults n c at ts ∙ sym (bracket_faults at w ts faults.shared_type (symbols.FunctionType c) e)

    classed : (x y : Bool) → shared_as_symbol (function_type x y) ≡ forget (function_of text n x y at ts)
    classed false false = refl
    classed true false = refl
    classed false true = refl
    classed true true = refl

    other_shared : is_function_type (symbol (bytes text w)) ≡ false → shared_as_symbol (symbol (bytes text w)) ≡ refused (misfit text (bracket at w ts)) → shared_as_symbol (symbol (bytes text w)) ≡ faults_of (bracket at w ts) faults.shared_type
    other_shared e h = h ∙ misfit_bracket at w ts faults.shared_type refl refl e

    shared_symbol : (y : Symbol) → symbol (bytes text w) ≡ y → shared_as_symbol (symbol (bytes text w)) ≡ faults_of (bracket at w ts) faults.shared_type
    shared_symbol symbols.Spec e = other_shared (ap is_function_type e) (ap shared_as_symbol e)
    shared_symbol symbols.Declare e = other_shared (ap is_function_type e) (ap shared_as_symbol e)
    shared_symbol symbols.Type e = other_shared (ap is_function_type e) (ap shared_as_symbol e)
    shared_symbol symbols.TypeShared e = other_shared (ap is_function_type e) (ap shared_as_symbol e)
    shared_symbol (symbols.FunctionType c) e = typed_as c e (classed c.secret c.one_way)
    shared_symbol symbols.Knows e = other_shared (ap is_function_type e) (ap shared_as_symbol e)
    shared_symbol symbols.EverybodyKnows e = other_shared (ap is_function_type e) (ap shared_as_symbol e)
    shared_symbol symbols.Block e = other_shared (ap is_function_type e) (ap shared_as_symbol e)
    shared_symbol symbols.Comm e = other_shared (ap is_function_type e) (ap shared_as_symbol e)
    shared_symbol symbols.Tuple e = other_shared (ap is_function_type e) (ap shared_as_symbol e)
    shared_symbol symbols.Crypt e = other_shared (ap is_function_type e) (ap shared_as_symbol e)
    shared_symbol symbols.Vanilla e = other_shared (ap is_function_type e) (ap shared_as_symbol e)
    shared_symbol symbols.Apply e = other_shared (ap is_function_type e) (ap shared_as_symbol e)
    shared_symbol (symbols.Section s) e = other_shared (ap is_function_type e) (ap shared_as_symbol e)
    shared_symbol symbols.NotCarried e = other_shared (ap is_function_type e) (ap shared_as_symbol e)
    shared_symbol symbols.Unknown e = other_shared (ap is_function_type e) (ap shared_as_symbol e)

  shared_faults : (n : Name) (t : Tree) → forget (shared_as text n t) ≡ faults_of t faults.shared_type
  shared_faults n (quoted at p) = forget_then (a_name text (quoted at p)) (λ k. Ok (tables.value n k true)) fine (λ k. refl) ∙ then_fine (forget (a_name text (quoted at p))) ∙ quoted_name at p faults.shared_type refl refl
  shared_faults n (integer at v) = refl
  shared_faults n (bracket at w ts) = ap forget (chains.shared_as_by text at w ts (symbol (bytes text w)) refl n) ∙ shared_symbol n at w ts (symbol (bytes text w)) refl

  -- declarations, by their symbols
  abbrev Whole : Standing → Symbol → ℕ → Trees → Answer
  Whole s y at ts = then (bracket_by at (parts_count ts) s y) (first text (nodes_from text (part_of y) zero ts))

  type_faults : (at : ℕ) (ts : Trees) → forget (type_of text at ts) ≡ Whole faults.declaration symbols.Type at ts
  type_faults at none = refl
  type_faults at (more a none) = refl
  type_faults at (more a (more b none)) = two_steps (a_name text a) (λ x. a_name text b) (faults_of b faults.name) (λ x y. tables.value x y false) (λ x. name_faults b) ∙ ap (λ z. then z (faults_of b faults.name)) (name_faults a) ∙ sym (two_nodes a b faults.name faults.name)
  type_faults at (more a (more b (more c ts))) = wrong_parts at (parts_count (more a (more b (more c ts))) == 2) true (first text (nodes_from text (part_of symbols.Type) zero (more a (more b (more c ts))))) (more_than (parts_count (more a (more b (more c ts)))) 2 (omega arith))

  type_shared_faults : (at : ℕ) (ts : Trees) → forget (shared_of text at ts) ≡ Whole faults.declaration symbols.TypeShared at ts
  type_shared_faults at none = refl
  type_shared_faults at (more a none) = refl
  type_shared_faults at (more a (more b none)) = forget_then (a_name text a) (λ x. shared_as text x b) (faults_of b faults.shared_type) (λ x. shared_faults x b) ∙ ap (λ z. then z (faults_of b faults.shared_type)) (name_faults a) ∙ sym (two_nodes a b faults.name faults.shared_type)
  type_shared_faults at (more a (more b (more c ts))) = wrong_parts at (parts_count (more a (more b (more c ts))) == 2) true (first text (nodes_from text (part_of symbols.TypeShared) zero (more a (more b (more c ts))))) (more_than (parts_count (more a (more b (more c ts)))) 2 (omega arith))

  knows_faults : (at : ℕ) (ts : Trees) → forget (knows_of text at ts) ≡ Whole faults.declaration symbols.Knows at ts
  knows_faults at none = refl
  knows_faults at (more a none) = refl
  knows_faults at (more a (more b none)) = two_steps (a_name text a) (λ x. term text b) (faults_of b faults.term) (λ x y. tables.knows x y) (λ x. term_faults b) ∙ ap (λ z. then z (faults_of b faults.term)) (name_faults a) ∙ sym (two_nodes a b faults.name faults.term)
  knows_faults at (more a (more b (more c ts))) = wrong_parts at (parts_count (more a (more b (more c ts))) == 2) true (first text (nodes_from text (part_of symbols.Knows) zero (more a (more b (more c ts))))) (more_than (parts_count (more a (more b (more c ts)))) 2 (omega arith))

  everybody_faults : (at : ℕ) (ts : Trees) → forget (everybody_of text at ts) ≡ Whole faults.declaration symbols.EverybodyKnows at ts
  everybody_faults at none = refl
  everybody_faults at (more a none) = forget_then (term text a) (λ u. Ok (tables.everybody u)) fine (λ u. refl) ∙ ap (λ z. then z fine) (term_faults a) ∙ sym (first_join text (nodes text a faults.term) [])
  everybody_faults at (more a (more b ts)) = wrong_parts at (parts_count (more a (more b ts)) == 1) true (first text (nodes_from text (part_of symbols.EverybodyKnows) zero (more a (more b ts)))) (more_than (parts_count (more a (more b ts))) 1 (omega arith))

  declaration_faults : (t : Tree) → forget (declaration text t) ≡ faults_of t faults.declaration
  declaration_faults (quoted at p) = go (is_name (bytes text p))
    where
      go : (a : Bool) → refused (cond a (Misfit at) (NoName at)) ≡ then (quoted_alone at a false false (leb p.len 31)) fine
      go true = refl
      go false = refl
  declaration_faults (integer at v) = refl
  declaration_faults (bracket at w ts) = ap forget (chains.declaration_by text at w ts (symbol (bytes text w)) refl) ∙ typed (is (symbol (bytes text w)) symbols.Type) refl
    where
      everybody : (b : Bool) → is (symbol (bytes text w)) symbols.Type ≡ false → is (symbol (bytes text w)) symbols.TypeShared ≡ false → is (symbol (bytes text w)) symbols.Knows ≡ false → is (symbol (bytes text w)) symbols.EverybodyKnows ≡ b
          → forget (declared_by text (bracket at w ts) at ts (symbol (bytes text w))) ≡ faults_of (bracket at w ts) faults.declaration
      everybody true q r u v =
          let e = is_so (symbol (bytes text w)) symbols.EverybodyKnows v in
          ap (λ z. forget (declared_by text (bracket at w ts) at ts z)) e ∙ everybody_faults at ts ∙ sym (bracket_faults at w ts faults.declaration symbols.EverybodyKnows e)
      everybody false q r u v =
          let h : forget (declared_by text (bracket at w ts) at ts (symbol (bytes text w))) ≡ refused (misfit text (bracket at w ts)) = rw (q, r, u, v) refl in
          let b : belongs faults.declaration (symbol (bytes text w)) ≡ false = rw (q, r, u, v) refl in
          h ∙ misfit_bracket at w ts faults.declaration refl refl b

      known : (b : Bool) → is (symbol (bytes text w)) symbols.Type ≡ false → is (symbol (bytes text w)) symbols.TypeShared ≡ false → is (symbol (bytes text w)) symbols.Knows ≡ b
          → forget (declared_by text (bracket at w ts) at ts (symbol (bytes text w))) ≡ faults_of (bracket at w ts) faults.declaration
      known true q r u =
          let e = is_so (symbol (bytes text w)) symbols.Knows u in
          ap (λ z. forget (declared_by text (bracket at w ts) at ts z)) e ∙ knows_faults at ts ∙ sym (bracket_faults at w ts faults.declaration symbols.Knows e)
      known false q r u = everybody (is (symbol (bytes text w)) symbols.EverybodyKnows) q r u refl

      shared : (b : Bool) → is (symbol (bytes text w)) symbols.Type ≡ false → is (symbol (bytes text w)) symbols.TypeShared ≡ b
          → forget (declared_by text (bracket at w ts) at ts (symbol (bytes text w))) ≡ faults_of (bracket at w ts) faults.declaration
      shared true q r =
          let e = is_so (symbol (bytes text w)) symbols.TypeShared r in
          ap (λ z. forget (declared_by text (bracket at w ts) at ts z)) e ∙ type_shared_faults at ts ∙ sym (bracket_faults at w ts faults.declaration symbols.TypeShared e)
      shared false q r = known (is (symbol (bytes text w)) symbols.Knows) q r refl

      typed : (b : Bool) → is (symbol (bytes text w)) symbols.Type ≡ b → forget (declared_by text (bracket at w ts) at ts (symbol (bytes text w))) ≡ faults_of (bracket at w ts) faults.declaration
      typed true q =
          let e = is_so (symbol (bytes text w)) symbols.Type q in
          ap (λ z. forget (declared_by text (bracket at w ts) at ts z)) e ∙ type_faults at ts ∙ sym (bracket_faults at w ts faults.declaration symbols.Type e)
      typed false q = shared (is (symbol (bytes text w)) symbols.TypeShared) q refl

  -- a label, and a line
  label_faults : (t : Tree) → forget (label text t) ≡ faults_of t faults.label
  label_faults (quoted at p) = forget_then (a_name text (quoted at p)) (λ n. Ok (labels.Name n)) fine (λ n. refl) ∙ then_fine (forget (a_name text (quoted at p))) ∙ quoted_name at p faults.label refl refl
  label_faults (integer at v) = refl
  label_faults (bracket at w ts) = misfit_bracket at w ts faults.label refl refl refl

  comm_faults : (at : ℕ) (ts : Trees) → forget (comm_of text at ts) ≡ Whole faults.line symbols.Comm at ts
  comm_faults at none = refl
  comm_faults at (more a none) = refl
  comm_faults at (more a (more b none)) = refl
  comm_faults at (more a (more b (more c none))) = refl
  comm_faults at (more a (more b (more c (more d none)))) =
      forget_then (label text a) (λ l. and_then (a_name text b) (λ s. and_then (a_name text c) (λ r. and_then (term text d) (λ m. Ok (record { label = l; sender = s; receiver = r; message = m })))))
      (then (faults_of b faults.name) (then (faults_of c faults.name) (faults_of d faults.term)))
      (λ l. forget_then (a_name text b) (λ s. and_then (a_name text c) (λ r. and_then (term text d) (λ m. Ok (record { label = l; sender = s; receiver = r; message = m })))) (then (faults_of c faults.name) (faults_of d faults.term))
      (λ s. two_steps (a_name text c) (λ r. term text d) (faults_of d faults.term) (λ r m. let x : Lined = record { label = l; sender = s; receiver = r; message = m } in x) (λ r. term_faults d) ∙ ap (λ z. then z (faults_of d faults.term)) (name_faults c))
      ∙ ap (λ z. then z (then (faults_of c faults.name) (faults_of d faults.term))) (name_faults b))
      ∙ ap (λ z. then z (then (faults_of b faults.name) (then (faults_of c faults.name) (faults_of d faults.term)))) (label_faults a)
      ∙ sym (first_join text (nodes text a faults.label) (nodes text b faults.name ++ (nodes text c faults.name ++ (nodes text d faults.term ++ [])))
      ∙ ap (then (faults_of a faults.label)) (first_join text (nodes text b faults.name) (nodes text c faults.name ++ (nodes text d faults.term ++ [])) ∙ ap (then (faults_of b faults.name)) (two_nodes c d faults.name faults.term)))
  comm_faults at (more a (more b (more c (more d (more e ts))))) =
      wrong_parts at (parts_count (more a (more b (more c (more d (more e ts))))) == 4) true (first text (nodes_from text (part_of symbols.Comm) zero (more a (more b (more c (more d (more e ts)))))))
      (more_than (parts_count (more a (more b (more c (more d (more e ts)))))) 4 (omega arith))

  line_faults : (t : Tree) → forget (line text t) ≡ faults_of t faults.line
  line_faults (quoted at p) = go (is_name (bytes text p))
    where
      go : (a : Bool) → refused (cond a (Misfit at) (NoName at)) ≡ then (quoted_alone at a false false (leb p.len 31)) fine
      go true = refl
      go false = refl
  line_faults (integer at v) = refl
  line_faults (bracket at w ts) = ap forget (chains.line_by text at w ts (symbol (bytes text w)) refl) ∙ comm (is (symbol (bytes text w)) symbols.Comm) refl
    where
      inner : (b : Bool) → is (symbol (bytes text w)) symbols.Comm ≡ false → is (symbol (bytes text w)) symbols.Block ≡ b → forget (lined_by text (bracket at w ts) at ts (symbol (bytes text w))) ≡ faults_of (bracket at w ts) faults.line
      inner true q r =
          let e = is_so (symbol (bytes text w)) symbols.Block r in
          ap (λ z. forget (lined_by text (bracket at w ts) at ts z)) e ∙ sym (bracket_faults at w ts faults.line symbols.Block e)
      inner false q r =
          let h : forget (lined_by text (bracket at w ts) at ts (symbol (bytes text w))) ≡ refused (misfit text (bracket at w ts)) = rw (q, r) refl in
          h ∙ misfit_bracket at w ts faults.line refl r q

      comm : (b : Bool) → is (symbol (bytes text w)) symbols.Comm ≡ b → forget (lined_by text (bracket at w ts) at ts (symbol (bytes text w))) ≡ faults_of (bracket at w ts) faults.line
      comm true q =
          let e = is_so (symbol (bytes text w)) symbols.Comm q in
          ap (λ z. forget (lined_by text (bracket at w ts) at ts z)) e ∙ comm_faults at ts ∙ sym (bracket_faults at w ts faults.line symbols.Comm e)
      comm false q = inner (is (symbol (bytes text w)) symbols.Block) q refl

  -- each of some trees
  each_faults : {A : Type 0} (one : Tree → Shaped A) (s : Standing) → ((t : Tree) → forget (one t) ≡ faults_of t s) → (n : ℕ) (ts : Trees) → forget (each one ts) ≡ first text (nodes_from text (λ k. s) n ts)
  unfolding each
  each_faults one s h n none = refl
  each_faults one s h n (more t ts) =
      two_steps (one t) (λ x. each one ts) (forget (each one ts)) (λ x xs. x ∷ xs) (λ x. refl) ∙ ap₂ then (h t) (each_faults one s h (suc n) ts) ∙ sym (first_join text (nodes text t s) (nodes_from text (λ k. s) (suc n) ts))

  -- a bracket with one symbol that belongs
  form_faults : {A : Type 0} (word : String) (x : Symbol) (s : Standing) (f : ℕ → Trees → Shaped A) → found (codes word) carried ≡ Some x → empty_list s ≡ false → takes_name s ≡ false → takes_integer s ≡ false
      → ((y : Symbol) → inner_block s y ≡ false) → ((y : Symbol) → belongs s y ≡ is y x) → ((at : ℕ) (ts : Trees) → forget (f at ts) ≡ Whole s x at ts) → (t : Tree) → forget (form text word f t) ≡ faults_of t s
  form_faults word x s f fx a b c i g h (quoted at p) =
      go (is_name (bytes text p)) ∙ sym (ap (λ z. then (quoted_alone at (is_name (bytes text p)) z (takes_name s) (leb p.len 31)) fine) a ∙ ap (λ z. then (quoted_alone at (is_name (bytes text p)) false z (leb p.len 31)) fine) b)
    where
      go : (n : Bool) → refused (cond n (Misfit at) (NoName at)) ≡ then (quoted_alone at n false false (leb p.len 31)) fine
      go true = refl
      go false = refl
  form_faults word x s f fx a b c i g h (integer at v) = sym (ap (λ z. then (integer_alone at z (takes_integer s)) fine) a ∙ ap (λ z. then (integer_alone at false z) fine) c)
  form_faults word x s f fx a b c i g h (bracket at w ts) =
      ap (λ z. forget (cond z (f at ts) (Err (misfit text (bracket at w ts))))) (spelled (bytes text w) (codes word) x (symbol (bytes text w)) fx refl) ∙ go (is (symbol (bytes text w)) x) refl
    where
      go : (z : Bool) → is (symbol (bytes text w)) x ≡ z → forget (cond z (f at ts) (Err (misfit text (bracket at w ts)))) ≡ faults_of (bracket at w ts) s
      go true q = h at ts ∙ sym (bracket_faults at w ts s x (is_so (symbol (bytes text w)) x q))
      go false q = misfit_bracket at w ts s a (i (symbol (bytes text w))) (g (symbol (bytes text w)) ∙ q)

  declare_faults : (t : Tree) → forget (declare text t) ≡ faults_of t faults.declare
  unfolding found declarations
  declare_faults = form_faults "declare" symbols.Declare faults.declare (λ at ts. declarations text ts) refl refl refl refl (λ y. refl) (λ y. refl) (λ at ts. each_faults (declaration text) faults.declaration declaration_faults zero ts)

  block_faults : (t : Tree) → forget (block text t) ≡ faults_of t faults.block
  unfolding found lines
  block_faults =
      form_faults "block" symbols.Block faults.block (λ at ts. at_most 64 at ts (lines text ts)) refl refl refl refl (λ y. refl) (λ y. refl)
      (λ at ts.
      limited 64 at ts (lines text ts) ∙ ap (λ o. cond (leb (parts_count ts) 64) o (refused (Limit at))) (each_faults (line text) faults.line line_faults zero ts)
      ∙ right_parts at true (leb (parts_count ts) 64) (first text (nodes_from text (part_of symbols.Block) zero ts)) refl)

  -- a list of which no part is carried
  barred_faults : (t : Tree) (r : Answer) → refused (barred text t) ≡ then (faults_of t faults.barred) r
  barred_faults (quoted at p) r = go (is_name (bytes text p))
    where
      go : (a : Bool) → refused (cond a (NotCarried at) (NoName at)) ≡ then (then (quoted_alone at a true false (leb p.len 31)) fine) r
      go true = refl
      go false = refl
  barred_faults (integer at v) r = refl
  barred_faults (bracket at w ts) r = refl

  empty_faults : (s : Section) (at : ℕ) (ts : Trees) → forget (empty text ts) ≡ Whole (faults.section s) (symbols.Section s) at ts
  empty_faults sections.Sessions at none = refl
  empty_faults sections.Assume at none = refl
  empty_faults sections.Claim at none = refl
  empty_faults sections.Sessions at (more t ts) = barred_faults t (first text (nodes_from text (part_of (symbols.Section sections.Sessions)) (suc zero) ts)) ∙ sym (first_join text (nodes text t faults.barred) (nodes_from text (part_of (symbols.Section sections.Sessions)) (suc zero) ts))
  empty_faults sections.Assume at (more t ts) = barred_faults t (first text (nodes_from text (part_of (symbols.Section sections.Assume)) (suc zero) ts)) ∙ sym (first_join text (nodes text t faults.barred) (nodes_from text (part_of (symbols.Section sections.Assume)) (suc zero) ts))
  empty_faults sections.Claim at (more t ts) = barred_faults t (first text (nodes_from text (part_of (symbols.Section sections.Claim)) (suc zero) ts)) ∙ sym (first_join text (nodes text t faults.barred) (nodes_from text (part_of (symbols.Section sections.Claim)) (suc zero) ts))

  section_faults : (s : Section) (t : Tree) → forget (section text (section_word s) t) ≡ faults_of t (faults.section s)
  section_faults s = form_faults (section_word s) (symbols.Section s) (faults.section s) (λ at ts. empty text ts) (section_found s) refl refl refl (λ y. refl) (λ y. refl) (empty_faults s)

  -- the whole
  specification_faults : (d b s a c : Tree) → forget (specification text d b s a c)
      ≡ then (faults_of d faults.declare) (then (faults_of b faults.block) (then (faults_of s (faults.section sections.Sessions)) (then (faults_of a (faults.section sections.Assume)) (faults_of c (faults.section sections.Claim)))))
  unfolding specification
  specification_faults d b s a c =
      forget_then (declare text d) _ (then (faults_of b faults.block) (then (faults_of s (faults.section sections.Sessions)) (then (faults_of a (faults.section sections.Assume)) (faults_of c (faults.section sections.Claim)))))
      (λ ds. forget_then (block text b) _ (then (faults_of s (faults.section sections.Sessions)) (then (faults_of a (faults.section sections.Assume)) (faults_of c (faults.section sections.Claim))))
      (λ ls. forget_then (section text "sessions" s) _ (then (faults_of a (faults.section sections.Assume)) (faults_of c (faults.section sections.Claim)))
      (λ x. forget_then (section text "assume" a) _ (faults_of c (faults.section sections.Claim))
      (λ y. forget_then (section text "claim" c) _ fine (λ z. refl) ∙ then_fine (forget (section text "claim" c)) ∙ section_faults sections.Claim c)
      ∙ ap (λ z. then z (faults_of c (faults.section sections.Claim))) (section_faults sections.Assume a))
      ∙ ap (λ z. then z (then (faults_of a (faults.section sections.Assume)) (faults_of c (faults.section sections.Claim)))) (section_faults sections.Sessions s))
      ∙ ap (λ z. then z (then (faults_of s (faults.section sections.Sessions)) (then (faults_of a (faults.section sections.Assume)) (faults_of c (faults.section sections.Claim))))) (block_faults b))
      ∙ ap (λ z. then z (then (faults_of b faults.block) (then (faults_of s (faults.section sections.Sessions)) (then (faults_of a (faults.section sections.Assume)) (faults_of c (faults.section sections.Claim)))))) (declare_faults d)

  five_faults : (at : ℕ) (ts : Trees) → forget (five_parts at ts (specification text)) ≡ Whole faults.root symbols.Spec at ts
  five_faults at none = refl
  five_faults at (more d none) = refl
  five_faults at (more d (more b none)) = refl
  five_faults at (more d (more b (more s none))) = refl
  five_faults at (more d (more b (more s (more a none)))) = refl
  five_faults at (more d (more b (more s (more a (more c none))))) =
      specification_faults d b s a c
      ∙ sym (first_join text (nodes text d faults.declare) (nodes_from text (part_of symbols.Spec) 1 (more b (more s (more a (more c none)))))
      ∙ ap (then (faults_of d faults.declare)) (first_join text (nodes text b faults.block) (nodes_from text (part_of symbols.Spec) 2 (more s (more a (more c none))))
      ∙ ap (then (faults_of b faults.block)) (first_join text (nodes text s (faults.section sections.Sessions)) (nodes_from text (part_of symbols.Spec) 3 (more a (more c none)))
      ∙ ap (then (faults_of s (faults.section sections.Sessions))) (two_nodes a c (faults.section sections.Assume) (faults.section sections.Claim)))))
  five_faults at (more d (more b (more s (more a (more c (more e ts)))))) =
      wrong_parts at (parts_count (more d (more b (more s (more a (more c (more e ts)))))) == 5) true (first text (nodes_from text (part_of symbols.Spec) zero (more d (more b (more s (more a (more c (more e ts))))))))
      (more_than (parts_count (more d (more b (more s (more a (more c (more e ts))))))) 5 (omega arith))

  shape_faults : (t : Tree) → forget (shape text t) ≡ faults_of t faults.root
  unfolding found
  shape_faults = form_faults "spec" symbols.Spec faults.root (λ at ts. five_parts at ts (specification text)) refl refl refl refl (λ y. refl) (λ y. refl) five_faults

  forgotten : {A : Type 0} (o : Shaped A) (f : ShapeFault) → forget o ≡ Err f → o ≡ Err f
  forgotten (Ok x) f e = absurd (cc)
  forgotten (Err g) f e = let x : g ≡ f = cc in ap Err x

  all_sound : (ns : List Node) → first text ns ≡ fine → AllSound text ns
  all_sound [] e = tt
  all_sound (n ∷ ns) e = go (all_sound ns) (alone text n.tree n.standing) refl e
    where
      go : (first text ns ≡ fine → AllSound text ns) → (a : Answer) → alone text n.tree n.standing ≡ a → then a (first text ns) ≡ fine → AllSound text (n ∷ ns)
      go later (Ok tt) q e = (λ g h. alone_fine text n.tree n.standing g q h, later e)
      go later (Err g) q e = absurd (cc)

  none_first : (ns : List Node) → AllSound text ns → first text ns ≡ fine
  none_first [] s = refl
  none_first (n ∷ ns) s = ap (λ a. then a (first text ns)) (sound_fine text n s.0) ∙ none_first ns s.1

  -- an answer with nothing forgotten but the value
  remembered : {A : Type 0} (o : Shaped A) → forget o ≡ fine → (x : A) × (o ≡ Ok x)
  remembered (Ok x) e = (x, refl)
  remembered (Err f) e = absurd (cc)

  pub shape_law : ShapeLaw text
  shape_law = record {
    refused = λ t f. (
      (λ e. first_fault text (nodes text t faults.root) f (sym (shape_faults t) ∙ ap forget e)),
      (λ r. forgotten (shape text t) f (shape_faults t ∙ ap (first text) r.all ∙ faulty_first text r.before r.node r.after f r.sound (r.faulty, r.highest))),
    );
    accepted = λ t. (
      (λ x. all_sound (nodes text t faults.root) (sym (shape_faults t) ∙ ap forget x.1)),
      (λ s. remembered (shape text t) (shape_faults t ∙ none_first (nodes text t faults.root) s)),
    );
    spelled = spelled_so text;
  }
