-- How a list of entries grows: registers are passed over, or a term that it lacks joins at a new register.
use Rattle.std.proofs.Common.{◌≡◌, ℕ, ◌<◌, ◌≤◌, ◌⊎◌, List, inl, inr, arith}
use mathlib.Core.Path.{subst⁻¹}
use Rattle.model.specs.Lists.{Every}
use Rattle.model.specs.Trees.{Tree}
use Rattle.model.specs.Roles.{Entry}
use Rattle.model.specs.Entries.{Has, Ascends, Once, Below}
use Rattle.model.proofs.Lists.{every_map}
use Rattle.model.proofs.Entries.{with_one, Keeps, has_old, has_split, every_one, ascends_one, once_one}

-- from the entries `es` and the next register `n`; `Ok` says what may join
pub data Grows (Ok : List Entry → Entry → Type 0) (es : List Entry) (n : ℕ) : List Entry → ℕ → Type 0 where
  stay : Grows Ok es n es n
  pass : {fs : List Entry} {m k : ℕ} → Grows Ok es n fs m → m ≤ k → Grows Ok es n fs k
  join : {fs : List Entry} {m k : ℕ} → Grows Ok es n fs m → (e : Entry) → ¬ Has fs e.term → Ok fs e → m ≤ e.at → e.at < k → Grows Ok es n (with_one fs e) k

below_more : (es : List Entry) (m k : ℕ) → m ≤ k → Below es m → Below es k
below_more es m k l = every_map (λ e. e.at < m) (λ e. e.at < k) (λ e h. omega arith) es

module _ (Ok : List Entry → Entry → Type 0) where
  pub grows_trans : {es : List Entry} {n : ℕ} {fs : List Entry} {m : ℕ} {gs : List Entry} {k : ℕ} → Grows Ok es n fs m → Grows Ok fs m gs k → Grows Ok es n gs k
  grows_trans g stay = g
  grows_trans g (pass h l) = pass (grows_trans g h) l
  grows_trans g (join h e a o l b) = join (grows_trans g h) e a o l b

  -- nothing is forgotten
  pub grows_has : {es : List Entry} {n : ℕ} {fs : List Entry} {m : ℕ} → Grows Ok es n fs m → Keeps es fs
  grows_has stay t h = h
  grows_has (pass g l) t h = grows_has g t h
  grows_has (join {fs = fs} g e a o l b) t h = has_old fs e t (grows_has g t h)

  -- registers stay below the next, and ascend
  pub grows_below : {es : List Entry} {n : ℕ} {fs : List Entry} {m : ℕ} → Grows Ok es n fs m → Below es n → Below fs m
  grows_below stay w = w
  grows_below (pass {fs = fs} {m = m} {k = k} g l) w = below_more fs m k l (grows_below g w)
  grows_below (join {fs = fs} {m = m} {k = k} g e a o l b) w = every_one (λ x. x.at < k) fs e (below_more fs m k (omega arith) (grows_below g w)) b

  pub grows_ascends : {es : List Entry} {n : ℕ} {fs : List Entry} {m : ℕ} → Grows Ok es n fs m → Below es n → Ascends es → Ascends fs
  grows_ascends stay w s = s
  grows_ascends (pass g l) w s = grows_ascends g w s
  grows_ascends (join {fs = fs} {m = m} g e a o l b) w s = ascends_one fs e (grows_ascends g w s) (below_more fs m e.at l (grows_below g w))

  -- a term stands once
  pub grows_once : {es : List Entry} {n : ℕ} {fs : List Entry} {m : ℕ} → Grows Ok es n fs m → Once es → Once fs
  grows_once stay s = s
  grows_once (pass g l) s = grows_once g s
  grows_once (join {fs = fs} g e a o l b) s = once_one fs e (grows_once g s) a

  -- what holds of each term, if it holds of each that joins
  pub grows_all : (X : Tree → Type 0) → ((fs : List Entry) (e : Entry) → ((u : Tree) → Has fs u → X u) → Ok fs e → X e.term)
      → {es : List Entry} {n : ℕ} {fs : List Entry} {m : ℕ} → Grows Ok es n fs m → ((u : Tree) → Has es u → X u) → (u : Tree) → Has fs u → X u
  grows_all X f stay w u h = w u h
  grows_all X f (pass g l) w u h = grows_all X f g w u h
  grows_all X f (join {fs = fs} g e a o l b) w u h = last (has_split fs e u h) (grows_all X f g w)
    where
      last : Has fs u ⊎ (u ≡ e.term) → ((u : Tree) → Has fs u → X u) → X u
      last (inl k) v = v u k
      last (inr p) v = subst⁻¹ X p (f fs e v o)

  -- what holds of each entry, if it holds of each that joins; `F` is a list that has all
  pub grows_every : (X : Entry → Type 0) (F : List Entry) → ((fs : List Entry) (e : Entry) → Keeps fs F → Ok fs e → X e)
      → {es : List Entry} {n : ℕ} {fs : List Entry} {m : ℕ} → Grows Ok es n fs m → Every X es → Keeps fs F → Every X fs
  grows_every X F f stay w i = w
  grows_every X F f (pass g l) w i = grows_every X F f g w i
  grows_every X F f (join {fs = fs} g e a o l b) w i =
      let j : Keeps fs F = λ u h. i u (has_old fs e u h) in
      every_one X fs e (grows_every X F f g w j) (f fs e j o)
