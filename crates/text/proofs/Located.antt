-- The parts of the text that a spelled tree names.
use Rattle.std.proofs.Common.{◌≡◌, ℕ, ◌+◌, ◌<◌, Bool, List, [], ◌∷◌, ◌++◌, length, take, drop, sym, refl, ap, ◌∙◌, subst, arith, drop-drop}
use lib.Seq.{take-append_seam, drop-append_seam}
use Rattle.text.specs.Bytes.{blank, plain, symbol, digit}
use Rattle.text.specs.Grammar.{Spot, MadeOf, Run, Byte, part, Term, Terms, Text}
use Rattle.text.specs.Law.{bytes_of, Parts, PartsAll}
use Rattle.text.specs.Trees.{Tree, quoted, integer, bracket, Trees, none, more}
use Rattle.text.specs.declared.class.ByteClass.{ByteClass}
use Rattle.text.specs.declared.class.ByteClass.TheVariants.{Quote, Open, Close}

module _ (text : List ℕ) where
  -- A spot of this text.
  abbrev On : Spot → Type 0
  On x = x.bytes ≡ drop x.place text

  further : (x y : Spot) (w : List ℕ) → On x → x.bytes ≡ w ++ y.bytes → y.place ≡ x.place + length w → On y
  further x y w o e l =
      sym (drop-append_seam w y.bytes) ∙ ap (drop (length w)) (sym e ∙ o) ∙ drop-drop (length w) x.place text ∙ ap (λ k. drop k text) (sym l)

  run_on : (p : ByteClass → Bool) (x y : Spot) (w : List ℕ) → Run p x w y → On x → On y
  run_on p x y w (m, e, l) o = further x y w o e l

  byte_on : (k : ByteClass) (x y : Spot) → Byte k x y → On x → On y
  byte_on k x y (b, q, e, l) o = further x y (b ∷ []) o e l

  -- The bytes of a run are those of its part.
  run_bytes : (p : ByteClass → Bool) (x y : Spot) (w : List ℕ) → Run p x w y → On x → bytes_of text (part x w) ≡ w
  run_bytes p x y w (m, e, l) o = ap (take (length w)) (sym o ∙ e) ∙ take-append_seam w y.bytes

  mutual
    term_parts : (t : Tree) (x y : Spot) → Term x t y → On x → Parts text t × On y
    term_parts (quoted at s) x y (a, b, q, f, r, l, pe, se) o =
        let oa = byte_on Quote x a f o in
        let i = f.3 in
        let bytes : bytes_of text s ≡ q = ap (bytes_of text) se ∙ run_bytes plain a b q r oa in (
          (
            ap (λ p. p.at) se ∙ omega arith,
            ap length bytes ∙ sym (ap (λ p. p.len) se),
            subst (MadeOf plain) (sym bytes) r.0,
          ),
          byte_on Quote b y l (run_on plain a b q r oa),
        )
    term_parts (integer at n) x y (ds, r, l, v, h, e, pe) o = (tt, run_on digit x y ds r o)
    term_parts (bracket at s ts) x y (a, b, c, d, w, n, f, rb, rs, l, e, terms, cl, pe, ne) o =
        let oa = byte_on Open x a f o in
        let ob = run_on blank a b w rb oa in
        let g = terms_parts ts c d terms (run_on symbol b c n rs ob) in
        let bytes : bytes_of text s ≡ n = ap (bytes_of text) ne ∙ run_bytes symbol b c n rs ob in (
          (
            subst (λ k. 0 < k) (sym (ap (λ p. p.len) ne)) l,
            ap length bytes ∙ sym (ap (λ p. p.len) ne),
            subst (MadeOf symbol) (sym bytes) rs.0,
            g.0,
          ),
          byte_on Close d y cl g.1,
        )

    terms_parts : (ts : Trees) (x y : Spot) → Terms x ts y → On x → PartsAll text ts × On y
    terms_parts none x y (w, r) o = (tt, run_on blank x y w r o)
    terms_parts (more t ts) x y (a, b, w, r, term, terms) o =
        let f = term_parts t a b term (run_on blank x a w r o) in
        let g = terms_parts ts b y terms f.1 in
        ((f.0, g.0), g.1)

  pub text_parts : (t : Tree) → Text text t → Parts text t
  text_parts t (a, b, c, w, v, r, term, rv, nil) = (term_parts t a b term (run_on blank (record { place = 0; bytes = text }) a w r refl)).0
