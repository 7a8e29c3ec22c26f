-- The law of sessions, proved.
use Rattle.model.specs.Sessions.{State, new_runs, after}
use Rattle.model.specs.SessionLaw.{SessionLaw}
use Rattle.model.proofs.Attends.{AllAttend, new_attend}
use Rattle.model.proofs.Attending.{after_attends, attends_life}
use Rattle.model.proofs.Answering.{decides}
use Rattle.model.proofs.Fair.{fair_goes}

pub session_law : SessionLaw
session_law S acc c space es =
    record {
      derived = record {
        holds = λ r. attends_life S r (s.views r) (all r);
        in_registers = λ A kept r q v. (all r).stands.values A ((all r).counts A kept).0.acts q v;
        in_says = λ A kept r. (all r).says A kept;
        registers_derive = λ r q v. (all r).stands.values_derive q v;
        says_derive = λ r. (all r).says_derive;
      };
      decided = decides S c s all;
      chosen = λ ρ. fair_goes S c ρ acc es space;
    }
  where
    s : State
    s = after c (new_runs S space) es

    all : AllAttend S s
    all = after_attends S c es (new_runs S space) (new_attend S acc space)
