-- The narration, computed.
use Rattle.std.proofs.Common.{◌≡◌, ℕ, zero, suc, ◌<◌, refl, inl, arith, lit<, lit≤}
use mathlib.Core.Option.{some}
use Rattle.model.specs.Trees.{leaf, crypt, size}
use Rattle.model.specs.Roles.{compose, can, due_parts, due, first_due, open_parts, open_text, check_again, settle_node, settle, settle_all, unsettled, settled, give_all, start, heard, said}
use Rattle.model.specs.Readings.{reading_of}
use Rattle.model.specs.Specifications.{message, duties}
use Rattle.model.specs.Programs.{nobody_yet, hears_line, Sayable, Accepted}
use Rattle.model.specs.Costs.{sheet_of}
use Rattle.model.specs.Sessions.{new_runs}
use Rattle.model.specs.SessionLaw.{Fair}
use Rattle.model.specs.Narration.{pairing, one_each, k, calls, choice, Narrated}

says_all : (r : ℕ) → r < 2 → Sayable (message pairing) (pairing.party r) nobody_yet (duties pairing r)
unfolding start heard said compose settled settle settle_all settle_node unsettled first_due due due_parts can open_parts open_text check_again give_all size
says_all zero h = tt
says_all (suc zero) h = tt
says_all (suc (suc r)) h = absurd (omega arith)

accepted : Accepted pairing
accepted =
    record {
      sayable = says_all;
      formed_starts = λ r h. (tt, tt);
      formed_lines = (tt, ((tt, (tt, (tt, tt))), tt));
      between_roles = ((lit< tt, lit< tt, λ e. omega arith), ((lit< tt, lit< tt, λ e. omega arith), tt));
    }

same_line : {a b : ℕ} → some (hears_line a) ≡ some (hears_line b) → a ≡ b
same_line e = cc

fair : Fair pairing one_each choice (new_runs pairing 2) calls
unfolding start heard said compose settled settle settle_all settle_node unsettled first_due due due_parts can open_parts open_text check_again give_all size sheet_of reading_of
fair =
    record {
      start = ((λ e. (refl, refl)), ((λ e. (refl, refl)), (tt, (tt, (tt, (tt, tt))))));
      arrive = (tt, (tt, (tt, ((λ l e. (leaf 5, refl, 0, inl (same_line e, refl))), (tt, ((λ l e. (crypt (leaf 5) k, refl, 1, inl (same_line e, refl))), tt))))));
      suffice = (lit≤ tt, (tt, (tt, (tt, (tt, (tt, tt))))));
    }

pub narrated : Narrated
unfolding start heard said compose settled settle settle_all settle_node unsettled first_due due due_parts can open_parts open_text check_again give_all size sheet_of reading_of
narrated =
    record {
      accepted = accepted;
      role_m = refl;
      role_h = refl;
      no_other_role = refl;
      costs_two = refl;
      fair = fair;
      all_taken = refl;
      replayed = refl;
      out_of_turn = refl;
      otherwise_refused = refl;
      misheard = refl;
      other_kind = refl;
      explained = refl;
      explained_once = refl;
    }
