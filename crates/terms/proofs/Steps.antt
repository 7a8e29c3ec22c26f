-- Steps after one another that end well: each of them does.
use Rattle.std.proofs.Common.{◌≡◌, ℕ, Bool, true, false, cond, leb, List, Ok, Err, Result, refl}
use Rattle.model.specs.Trees.{Tree}
use Rattle.syntax.specs.Specs.{Terms, count}
use Rattle.terms.specs.declared.fault.TermFault.{TermFault}
use Rattle.terms.specs.declared.fault.TermFault.TheVariants.{Limit}
use Rattle.terms.specs.Declaring.{bind}
use Rattle.terms.specs.Numbering.{next, at_most_eight}

pub record Steps {A B E : Type 0} (r : Result A E) (f : A → Result B E) (y : B) : Type 0 where
  pub mid : A
  pub first : r ≡ Ok mid
  pub second : f mid ≡ Ok y

pub steps : {A B E : Type 0} (r : Result A E) (f : A → Result B E) (y : B) → bind r f ≡ Ok y → Steps r f y
steps (Ok x) f y e = record { mid = x; first = refl; second = e }
steps (Err x) f y e = absurd (cc)

pub steps_read : (r : Result (List Tree) TermFault) (f : List Tree → Result (List Tree) TermFault) (vs : List Tree) → next r f ≡ Ok vs → Steps r f vs
steps_read (Ok us) f vs e = record { mid = us; first = refl; second = e }
steps_read (Err x) f vs e = absurd (cc)

-- parts that were read are at most eight
pub few_read : (at : ℕ) (ts : Terms) (r : Result (List Tree) TermFault) (us : List Tree) → at_most_eight at ts r ≡ Ok us → r ≡ Ok us
few_read at ts r us e = go (leb (count ts) 8) e
  where
    go : (b : Bool) → cond b r (Err (Limit at)) ≡ Ok us → r ≡ Ok us
    go true e = e
    go false e = absurd (cc)
