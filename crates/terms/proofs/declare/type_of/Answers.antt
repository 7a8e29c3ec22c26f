use Rattle.std.proofs.Common.{◌≡◌, ℕ, List, cond, codes, Ok, Err, sym, ap, ◌∙◌, rules, arith}
use Rattle.std.specs.Str.{bytes_eq}
use Rattle.std.proofs.lemmas.Slice.Eq.{text_from_reads}
use Rattle.syntax.specs.declared.spec.Name.{Name}
use Rattle.terms.specs.declared.declarations.ValueType.TheVariants.{Number, Principal}
use Rattle.terms.specs.declared.fault.DeclarationFault.TheVariants.{WrongType}
use Rattle.terms.specs.Scope.{bytes}
use Rattle.terms.specs.Declaring.{kind_of}
use Rattle.terms.proofs.declare.type_of.Goals as goal

kind_by : (text : List ℕ) (n : Name) (bs : List ℕ) → bytes text n.part ≡ bs → cond (bytes_eq bs (codes "number")) (Ok Number) (cond (bytes_eq bs (codes "principal")) (Ok Principal) (Err (WrongType n.at))) ≡ kind_of text n
kind_by text n bs e = ap (λ bs. cond (bytes_eq bs (codes "number")) (Ok Number) (cond (bytes_eq bs (codes "principal")) (Ok Principal) (Err (WrongType n.at)))) (sym e)

pub returns-in-number : goal.returns-in-number
returns-in-number c = kind_by c.args.text.now c.args.name (codes "number") (sym c.of.ensures ∙ text_from_reads c.of.result.now (codes "number") (omega arith) (search rules))

pub returns-in-principal : goal.returns-in-principal
returns-in-principal c = kind_by c.args.text.now c.args.name (codes "principal") (sym c.of.ensures ∙ text_from_reads c.of.result.now (codes "principal") (omega arith) (search rules))
