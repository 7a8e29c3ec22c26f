-- What the steps of building a tree do to it, and to the brackets that are open.
use Rattle.std.proofs.Common.{◌≡◌, ℕ, suc, ◌+◌, List, [], ◌∷◌, ◌++◌, length, map, reverse, get_or, set, take, Ok, Result, sym, refl, ap, ◌∙◌, arith, take-append-drop}
use Rattle.std.proofs.lemmas.List.{drop_all, drop_more, length-take-le, map_push, reverse-append, set_at}
use Rattle.text.specs.Machine.{Frame, Point, put}
use Rattle.text.specs.Nodes.{tree_of, trees_of}
use Rattle.text.specs.Reading.{count}
use Rattle.text.specs.Standing.{frame_of, frames, level}
use Rattle.text.specs.Trees.{Tree, Trees, none, more, size, sizes, add}
use Rattle.text.specs.declared.builder.Open.{Open}
use Rattle.text.specs.declared.fault.TextFault.{TextFault}
use Rattle.text.specs.declared.tree.Tree.{Tree as TreeValue}

pub frames_push : (os : List Open) (o : Open) → frames (os ++ (o ∷ [])) ≡ frame_of o ∷ frames os
frames_push os o = ap reverse (map_push frame_of os o) ∙ reverse-append (map frame_of os) (frame_of o ∷ [])

trees_push : (ns : List TreeValue) (n : TreeValue) → trees_of (ns ++ (n ∷ [])) ≡ add (trees_of ns) (tree_of n)
trees_push [] n = refl
trees_push (m ∷ ns) n = ap (more (tree_of m)) (trees_push ns n)

sizes_add : (ts : Trees) (t : Tree) → sizes (add ts t) ≡ sizes ts + size t
unfolding size
sizes_add none t = omega arith
sizes_add (more u ts) t = let h = sizes_add ts t in omega arith

pub count_add : (fs : List Frame) (f : Frame) (t : Tree) → count (f ∷ fs) + size t ≡ count (record { at = f.at; symbol = f.symbol; parts = add f.parts t } ∷ fs)
unfolding count
count_add fs f t = let h = sizes_add f.parts t in omega arith

-- A node becomes a part of the last bracket.
module _ (os : List Open) (o p : Open) (k : ℕ) (n : TreeValue) (last : length os ≡ suc k) (is : o ≡ get_or os k o) (a : p.at ≡ o.at) (s : p.symbol ≡ o.symbol) (g : p.parts.items ≡ o.parts.items ++ (n ∷ [])) where
  split : os ≡ take k os ++ (o ∷ [])
  split = sym (take-append-drop k os) ∙ ap (λ l. take k os ++ l) (drop_more os k o (omega arith) ∙ rw (← is, drop_all (k + 1) os (omega arith)))

  before_it : frames os ≡ frame_of o ∷ frames (take k os)
  before_it = ap frames split ∙ frames_push (take k os) o

  after_it : frames (set os k p) ≡ record { at = o.at; symbol = o.symbol; parts = add (trees_of o.parts.items) (tree_of n) } ∷ frames (take k os)
  after_it =
      ap (λ l. frames (set l k p)) split ∙ ap frames (set_at (take k os) o [] p k (length-take-le k os (omega arith))) ∙ frames_push (take k os) p
      ∙ rw (a, s, g, trees_push o.parts.items n)

  pub put_on : ◌≡◌ {A = Result Point TextFault} (Ok (put (tree_of n) (frames os))) (Ok (level (frames (set os k p))))
  put_on = rw (before_it, after_it)

  pub count_on : count (frames os) + size (tree_of n) ≡ count (frames (set os k p))
  count_on = rw (before_it, after_it, count_add (frames (take k os)) (frame_of o) (tree_of n))
