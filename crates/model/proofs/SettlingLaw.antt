-- The law of settling, proved.
use Rattle.model.specs.Deduction.{Party}
use Rattle.model.specs.Entries.{Has}
use Rattle.model.specs.Lives.{Life, Holdings, Disciplined}
use Rattle.model.specs.Specifications.{life_to}
use Rattle.model.specs.SettlingLaw.{SettlingLaw}
use Rattle.model.proofs.Deduction.{complete}
use Rattle.model.proofs.Lived.{Lived}
use Rattle.model.proofs.Lives.{lived, can_derivable}
use Rattle.model.proofs.Duties.{disciplined_before}
use Rattle.model.proofs.ComposingLaw.{disciplined_to}

pub settling_law : SettlingLaw
settling_law S r h done left e s q =
    record {
      at_rest = v.rest;
      sound = v.inv.sound;
      holdings = v.all;
      parts = v.sat.parts;
      texts = λ t k c d. v.sat.texts t k c (complete P (Holdings l) (Has s.known) v.sat v.all d);
      composes = can_derivable P l disc s q;
      once = v.inv.once;
      ascends = v.inv.ascends;
      below = v.inv.below;
    }
  where
    P : Party
    P = S.party r

    l : Life
    l = life_to S r done

    disc : Disciplined l
    disc = let z = disciplined_to S r h done left e in disciplined_before S left z.1 l z.0

    v : Lived P l s
    v = lived P l disc s q
