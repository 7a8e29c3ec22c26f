-- Two values are equal exactly if their encodings are.
use Rattle.std.proofs.Common.{◌≡◌, ℕ, Bool, T, List, [], ◌∷◌, ◌++◌, ap, sym, ◌∙◌, subst}
use Rattle.std.specs.Bool.{Decides, one_answer}
use Rattle.std.proofs.lemmas.Bool.{true_from_ne_false}
use Rattle.model.specs.Trees.{Tree, Formed, eq_tree}
use Rattle.model.specs.Tape.{encode}
use Rattle.model.proofs.Trees.{eq_tree_is, is_eq_tree}
use Rattle.tape.specs.Values.{values}
use Rattle.tape.proofs.Decoding.{decoding}

pub encode_one : (v w : Tree) → Formed v → Formed w → encode v ≡ encode w → v ≡ w
unfolding values
encode_one v w f g e =
    let p : v ∷ [] ≡ w ∷ [] = sym (decoding v [] f) ∙ ap (λ (es : List ℕ). values 0 (es ++ [])) e ∙ decoding w [] g in
    cc

pub equal_encodings : (v w : Tree) → Formed v → Formed w → (xs ys : List ℕ) → xs ≡ encode v → ys ≡ encode w → (r : Bool) → Decides r (xs ≡ ys) → r ≡ eq_tree v w
equal_encodings v w f g xs ys p q r d =
    one_answer {P = v ≡ w} r (eq_tree v w)
    (λ e. encode_one v w f g (sym p ∙ d.0 e ∙ q), λ e. d.1 (p ∙ ap encode e ∙ sym q))
    (λ e. eq_tree_is v w (subst T (sym e) tt), λ e. true_from_ne_false (eq_tree v w) (λ f. subst T f (is_eq_tree v w e)))
