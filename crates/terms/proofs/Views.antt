-- Terms of the code, form by form.
use Rattle.std.proofs.Common.{◌≡◌, ℕ, ◌+◌, ◌<◌, List, length, get_or, drop, Vec, Box, sym, ap, ◌∙◌, rules, vec_items}
use Rattle.std.proofs.lemmas.List.{at_drop_more}
use Rattle.std.specs.declared.alloc.Global.{Global}
use Rattle.syntax.specs.declared.spec.Name.{Name as NameValue}
use Rattle.syntax.specs.declared.spec.Term.{Term as TermValue, the_lemmas}
use Rattle.syntax.specs.declared.spec.Term.TheVariants.{Name, Tuple, Crypt, Apply}
use Rattle.syntax.specs.Specs.{name, tuple, crypt, apply, more}
use Rattle.syntax.specs.Views.{term_of, terms_of}

pub view-Name : (n : NameValue) → term_of (Name n) ≡ name n.at n.part
view-Name n = search (rules, the_lemmas)

pub view-Tuple : (at : ℕ) (v : Vec TermValue Global) → term_of (Tuple at v) ≡ tuple at (terms_of (vec_items v))
view-Tuple at v = search (rules, the_lemmas)

pub view-Apply : (at : ℕ) (f : NameValue) (v : Vec TermValue Global) → term_of (Apply at f v) ≡ apply at f (terms_of (vec_items v))
view-Apply at f v = search (rules, the_lemmas)

pub view-Crypt : (at : ℕ) (t k : Box TermValue Global) → term_of (Crypt at t k) ≡ crypt at (term_of t.value) (term_of k.value)
view-Crypt at t k = search (rules, the_lemmas)

-- the first of the terms that are left
pub terms_at : (ts : List TermValue) (i : ℕ) (t : TermValue) → i < length ts → t ≡ get_or ts i t → terms_of (drop i ts) ≡ more (term_of t) (terms_of (drop (i + 1) ts))
terms_at ts i t h e = at_drop_more terms_of ts i t h ∙ ap (λ u. more (term_of u) (terms_of (drop (i + 1) ts))) (sym e)
