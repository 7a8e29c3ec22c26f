-- What a state has of a role's life; after the start, and after a line heard.
use Rattle.std.proofs.Common.{Bool, true, false, cond, T, ◌↔◌, List, [], ◌∷◌, refl, inl, inr, arith}
use mathlib.Core.Path.{subst⁻¹}
use Rattle.model.specs.Trees.{Tree, none, more, Within, itself}
use Rattle.model.specs.Deduction.{Party, held}
use Rattle.model.specs.Roles.{give, hear, Entry, Role, fill, enter, meet, knows, settled, give_all, start, heard}
use Rattle.model.specs.Entries.{Has, AtRest}
use Rattle.model.specs.Keeping.{Inv, Nobody, Kept}
use Rattle.model.specs.Lives.{Life, starts, hears, OneOf, Passed, Holdings}
use Rattle.model.proofs.Trees.{within_part}
use Rattle.model.proofs.Deduction.{Saturated, derives_map}
use Rattle.model.proofs.Entries.{entry, Keeps, knows_has, has_old, has_new}
use Rattle.model.proofs.Growing.{stay, join, grows_has}
use Rattle.model.proofs.Composing.{Whole}
use Rattle.model.proofs.Keeping.{Met, Welcome, inv_met, Meets, meets}
use Rattle.model.proofs.Resting.{settled_rests, settled_saturated}

-- within a tree that has passed
abbrev pub Seen : Life → Tree → Type 0
Seen l v = (u : Tree) × Passed l u × Within v u

pub seen_whole : (l : Life) → Whole (Seen l)
seen_whole l h ts s u i = (s.0, s.1, within_part h ts s.0 s.2 u i)

pub kept_more : (P : Party) (H H' S S' : Tree → Type 0) → ((u : Tree) → H u → H' u) → ((u : Tree) → S u → S' u) → (s : Role) → Kept P H S s → Kept P H' S' s
kept_more P H H' S S' f g s v = record {
  below = v.below;
  ascends = v.ascends;
  once = v.once;
  sound = λ u h. derives_map P H H' f (v.sound u h);
  seen = λ u h. g u (v.seen u h);
  done = v.done;
}

-- what a state has of a life: the list is kept, has all that is held, is saturated, and nothing of it is due
pub record Lived (P : Party) (l : Life) (s : Role) : Type 0 where
  pub inv : Kept P (Holdings l) (Seen l) s
  pub all : (u : Tree) → Holdings l u → Has s.known u
  pub sat : Saturated P (Has s.known)
  pub rest : AtRest P s

-- the givens are entered, each once
record Gave (P : Party) (H S : Tree → Type 0) (ts : List Tree) (s s' : Role) : Type 0 where
  inv : Kept P H S s'
  keeps : Keeps s.known s'.known
  has : (u : Tree) → OneOf ts u → Has s'.known u

module _ (P : Party) (H S : Tree → Type 0) where
  gave_one : (t : Tree) (s : Role) → Welcome P H S t → Kept P H S s → Gave P H S (t ∷ []) s (cond (knows s.known t) s (enter t s.next false (fill give s)))
  gave_one t s x v = go (knows s.known t) (knows_has s.known t)
    where
      e : Entry
      e = entry t s.next false

      has_one : (es : List Entry) → Has es t → (u : Tree) → OneOf (t ∷ []) u → Has es u
      has_one es h u (inl p) = subst⁻¹ (Has es) p h
      has_one es h u (inr k) = elim k [ ]

      go : (b : Bool) → (T b ↔ Has s.known t) → Gave P H S (t ∷ []) s (cond b s (enter t s.next false (fill give s)))
      go true q = record { inv = v; keeps = λ u h. h; has = has_one s.known (q.0 tt) }
      go false q = record {
        inv = inv_met P H S Nobody (join stay e q.1 (tt, x) (omega arith) (omega arith)) v;
        keeps = has_old s.known e;
        has = has_one _ (has_new s.known e);
      }

  gave_then : (t : Tree) (ts : List Tree) (s s₁ s₂ : Role) → Gave P H S (t ∷ []) s s₁ → Gave P H S ts s₁ s₂ → Gave P H S (t ∷ ts) s s₂
  gave_then t ts s s₁ s₂ a b = record { inv = b.inv; keeps = λ u h. b.keeps u (a.keeps u h); has = has }
    where
      has : (u : Tree) → OneOf (t ∷ ts) u → Has s₂.known u
      has u (inl p) = b.keeps u (a.has u (inl p))
      has u (inr i) = b.has u i

  gave : (ts : List Tree) (s : Role) → ((u : Tree) → OneOf ts u → Welcome P H S u) → Kept P H S s → Gave P H S ts s (give_all P ts s)
  unfolding give_all
  gave [] s f v = record { inv = v; keeps = λ u h. h; has = λ u i. elim i [ ] }
  gave (t ∷ ts) s f v = let a = gave_one t s (f t (inl refl)) v in gave_then t ts s _ _ a (gave ts _ (λ u i. f u (inr i)) a.inv)

module _ (P : Party) where
  -- settling ends in a state that has all
  settle_lived : (l : Life) (s : Role) → Kept P (Holdings l) (Seen l) s → ((u : Tree) → Holdings l u → Has s.known u) → Lived P l (settled P s)
  settle_lived l s v a =
      let k = settled_rests P (Holdings l) (Seen l) (seen_whole l) s v in
      record { inv = k.inv; all = λ u h. k.keeps u (a u h); sat = settled_saturated P (Holdings l) (Seen l) (seen_whole l) s v; rest = k.none_due }

  pub lived_start : (ts : List Tree) → Lived P (starts ts) (start P ts)
  unfolding start
  lived_start ts = settle_lived (starts ts) (give_all P ts empty) g.inv g.has
    where
      empty : Role
      empty = record { known = []; next = 0; acts = [] }

      nothing_yet : Kept P (OneOf ts) (Seen (starts ts)) empty
      nothing_yet = record { below = tt; ascends = tt; once = tt; sound = λ u h. elim h [ ]; seen = λ u h. elim h [ ]; done = tt }

      g : Gave P (OneOf ts) (Seen (starts ts)) ts empty (give_all P ts empty)
      g = gave P (OneOf ts) (Seen (starts ts)) ts empty (λ u i. (held i, (u, i, itself))) nothing_yet

  pub lived_hear : (l : Life) (t : Tree) (s : Role) → Lived P l s → Lived P (hears l t) (heard P t s)
  unfolding heard
  lived_hear l t s v = settle_lived (hears l t) s₁ inv all
    where
      H : Tree → Type 0
      H = Holdings (hears l t)

      S : Tree → Type 0
      S = Seen (hears l t)

      x : Welcome P H S t
      x = (held (inr refl), (t, inr refl, itself))

      s₁ : Role
      s₁ = meet t s.next (fill hear s)

      m : Meets P (Welcome P H S) (more t none) s.next (fill hear s) s₁
      m = meets P (Welcome P H S) (more t none) s.next (fill hear s) (λ u. elim [ inl p ↦ subst⁻¹ (Welcome P H S) p x | inr i ↦ absurd i ])

      before : Kept P H S s
      before = kept_more P (Holdings l) H (Seen l) S (λ u h. inl h) (λ u k. (k.0, inl k.1, k.2)) s v.inv

      inv : Kept P H S s₁
      inv = subst⁻¹ (Inv P H S Nobody s₁.known) m.next_same (inv_met P H S Nobody m.grows before)

      all : (u : Tree) → H u → Has s₁.known u
      all u (inl h) = grows_has (Met (Welcome P H S)) m.grows u (v.all u h)
      all u (inr p) = m.has u (inl p)
