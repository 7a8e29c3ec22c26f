use Rattle.std.proofs.Common.{◌≡◌, take, flat_map, string_bytes, vec_items}
use Rattle.terms.specs.Meanings.{functions_of}
use Rattle.roles.specs.Listing.{function_names, role_text}
use Rattle.roles.proofs.translation.Translation.listing.Given as goal

abbrev pub invariant-loop-role : goal.invariant-loop-role
invariant-loop-role l =
    string_bytes l.out ≡ flat_map (role_text l.text (function_names l.text (functions_of l.self.declarations))) (take l.role-index (vec_items l.self.roles))
