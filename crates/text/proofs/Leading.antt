-- The steps of building a tree go along with reading byte by byte.
use Rattle.std.proofs.Common.{◌≡◌, ℕ, ◌+◌, ◌<◌, ◌≤◌, Bool, true, false, cond, ltb, leb, List, [], ◌∷◌, length, get_or, take, drop, Some, None, Option, Ok, Err, Result, sym, refl, ap, ◌∙◌, subst, arith, drop-drop}
use Rattle.std.proofs.lemmas.List.{drop_all, drop_more}
use Rattle.std.proofs.lemmas.Bool.{true≢false, cond-true, cond-false, le-leb, lt-leb, leb-false, or_parts}
use Rattle.text.specs.Bytes.{class, blank, begins, span}
use Rattle.text.specs.declared.class.ByteClass.{ByteClass}
use Rattle.text.specs.declared.class.ByteClass.TheVariants.{Blank, Quote, Open, Close, Digit, Backslash, Other}
use Rattle.text.specs.Machine.{Frame, Point, before, after, between, step_between, follow, run}
use Rattle.text.specs.Nodes.{tree_of}
use Rattle.text.specs.Reading.{count, full, read, reading, too_long, cut, Answers}
use Rattle.text.specs.Standing.{frames, level, turn, Room, Turns, Leads, Ends}
use Rattle.text.specs.Tokens.{Lexed, lex, limited, token, Read}
use Rattle.text.specs.Trees.{Tree}
use Rattle.text.specs.declared.fault.TextFault.{TextFault}
use Rattle.text.specs.declared.fault.TextFault.TheVariants.{Limit, Broken, NoMemory}
use Rattle.text.specs.declared.tree.Tree.{Tree as TreeValue}
use Rattle.text.specs.declared.token.Token.{Token}
use Rattle.text.specs.declared.token.Token.TheVariants.{Quoted as QuotedToken, Integer as IntegerToken, Open as OpenToken, Close as CloseToken}
use Rattle.text.specs.declared.builder.Open.{Open as OpenBracket}
use Rattle.text.proofs.Forward.{read_ok}
use Rattle.text.proofs.Passing.{stops, stay_blank, on_point, carry, one_token}

read_err : (old new : ℕ) (l : Lexed) (e : TextFault) → Read old l (Err e) new → l ≡ Err e
read_err old new (Ok p) e h = let a = h.0 in cc
read_err old new (Err d) e h = let q : d ≡ e = cc h.0 in rw q

-- One token more on the way from the text's beginning.
module _ (xs ys : List ℕ) (same : ys ≡ xs) (start at to : ℕ) (fs : List Frame) (so_far : Leads xs start before at (Ok (level fs))) (b : Bool) (q : b ≡ full fs) where
  leads : (r : Result Point TextFault) → run full at (between (level fs)) (drop at xs) ≡ on_point full xs to r → Leads xs start before to r
  leads (Ok p) h = so_far ∙ h
  leads (Err e) h = so_far ∙ h

  lexed : run full at (between (level fs)) (drop at xs) ≡ carry full xs fs (lex b at (drop at ys))
  lexed = one_token full xs fs at ∙ rw (q, same)

  pub lead_fault : (e : TextFault) → Read at (lex b at (drop at ys)) (Err e) to → Leads xs start before to (Err e)
  lead_fault e r = leads (Err e) (lexed ∙ ap (carry full xs fs) (read_err at to (lex b at (drop at ys)) e r))

  pub lead_token : (t : Token) → Read at (lex b at (drop at ys)) (Ok t) to → Leads xs start before to (turn fs t)
  lead_token t r = leads (turn fs t) (lexed ∙ ap (carry full xs fs) (read_ok at to (lex b at (drop at ys)) t r))

-- The term is whole, or reading ends with a fault.
pub ends_err : (e : TextFault) → Ends (Err e) (Err e)
ends_err (Limit at) = refl
ends_err (Broken at) = refl
ends_err (NoMemory w) = tt

pub turns_err : (q : Result Point TextFault) (e : TextFault) (os : List OpenBracket) (n : ℕ) → Turns q (Err e) os n → Ends q (Err e)
turns_err q (Limit at) os n h = h
turns_err q (Broken at) os n h = h
turns_err q (NoMemory w) os n h = tt

pub turns_some : (q : Result Point TextFault) (r : Option TreeValue) (n : TreeValue) (os : List OpenBracket) (k : ℕ) → r ≡ Some n → Turns q (Ok r) os k → Ends q (Ok n)
turns_some q r n os k e h = subst (λ o. Turns q (Ok o) os k) e h

pub turns_none : (q : Result Point TextFault) (r : Option TreeValue) (os : List OpenBracket) (k : ℕ) → r ≡ None → Turns q (Ok r) os k → (q ≡ Ok (level (frames os))) × (k ≡ count (frames os))
turns_none q r os k e h = subst (λ o. Turns q (Ok o) os k) e h

-- A token that is read begins a node only where there is room for it.
room_for : (n : ℕ) (t : Token) → n < 4096 → Room n t
room_for n (QuotedToken at p) h = h
room_for n (IntegerToken at v) h = h
room_for n (OpenToken at s) h = h
room_for n (CloseToken at) h = tt

room_full : (at n : ℕ) (bs : List ℕ) (k : ByteClass) (t : Token) (to : ℕ) → cond (begins k) (Err (Limit at)) (token at bs k) ≡ Ok (t, to) → Room n t
room_full at n bs Blank t to e = let z : ◌≡◌ {A = ℕ} 0 1 = cc in absurd (omega arith)
room_full at n bs Quote t to e = let z : ◌≡◌ {A = ℕ} 0 1 = cc in absurd (omega arith)
room_full at n bs Open t to e = let z : ◌≡◌ {A = ℕ} 0 1 = cc in absurd (omega arith)
room_full at n bs Close t to e = let q : ◌≡◌ {A = Token × ℕ} (CloseToken at, at + 1) (t, to) = cc in subst (λ (x : Token × ℕ). Room n x.0) q tt
room_full at n bs Digit t to e = let z : ◌≡◌ {A = ℕ} 0 1 = cc in absurd (omega arith)
room_full at n bs Backslash t to e = let z : ◌≡◌ {A = ℕ} 0 1 = cc in absurd (omega arith)
room_full at n bs Other t to e = let z : ◌≡◌ {A = ℕ} 0 1 = cc in absurd (omega arith)

room_limited : (b : Bool) (at n : ℕ) (bs : List ℕ) (t : Token) (to : ℕ) → limited b at bs ≡ Ok (t, to) → (b ≡ false → n < 4096) → Room n t
room_limited b at n [] t to e h = let z : ◌≡◌ {A = ℕ} 0 1 = cc in absurd (omega arith)
room_limited true at n (c ∷ bs) t to e h = room_full at n (c ∷ bs) (class c) t to e
room_limited false at n (c ∷ bs) t to e h = room_for n t (h refl)

pub room : (b : Bool) (fs : List Frame) → b ≡ full fs → (n : ℕ) → n ≡ count fs → (at to : ℕ) (bs : List ℕ) (t : Token) → Read at (lex b at bs) (Ok t) to → Room n t
room b fs q n c at to bs t r =
    room_limited b (at + span blank bs) n (drop (span blank bs) bs) t to (read_ok at to (lex b at bs) t r)
    (λ f. let l = leb-false 4096 (count fs) (or_parts (leb 4096 (count fs)) (leb 32 (length fs)) (sym q ∙ f)).0 in omega arith)

-- After the term there are blanks alone.
module _ (xs : List ℕ) (at : ℕ) (t : Tree) (end : ℕ) (e : end ≡ at + span blank (drop at xs)) where
  rest_is : run full at (between (after t)) (drop at xs) ≡ run full end (between (after t)) (drop end xs)
  rest_is = stay_blank full (after t) at (drop at xs) ∙ rw (drop-drop (span blank (drop at xs)) at xs, ← e)

  pub all_read : length xs ≤ end → run full at (between (after t)) (drop at xs) ≡ Ok t
  unfolding run
  all_read h = rest_is ∙ rw (drop_all end xs h)

  no_blank : (k : ByteClass) → blank k ≡ false → (b : ℕ) (bs : List ℕ) → follow full end (step_between end (after t) b k) (λ s. run full (end + 1) s bs) ≡ Err (Broken end)
  no_blank Blank q b bs = absurd (true≢false q)
  no_blank Quote q b bs = refl
  no_blank Open q b bs = refl
  no_blank Close q b bs = refl
  no_blank Digit q b bs = refl
  no_blank Backslash q b bs = refl
  no_blank Other q b bs = refl

  pub trailing : end < length xs → run full at (between (after t)) (drop at xs) ≡ Err (Broken end)
  unfolding run
  trailing h =
      let d = drop_more xs end 0 h in
      let s = stops blank (drop at xs) (get_or xs end 0) (drop (end + 1) xs) (drop-drop (span blank (drop at xs)) at xs ∙ ap (λ z. drop z xs) (sym e) ∙ d) in
      rest_is ∙ ap (run full end (between (after t))) d ∙ no_blank (class (get_or xs end 0)) s (get_or xs end 0) (drop (end + 1) xs)

-- The whole text, once its term is read.
module _ (text xs ys : List ℕ) (q : xs ≡ text) (r : ys ≡ xs) (start to end : ℕ) (z : start ≡ 0) (e : end ≡ to + span blank (drop to ys)) (o : Result Point TextFault) (n : TreeValue) (w : Ends o (Ok n)) (l : Leads xs start before to o) where
  end_is : end ≡ to + span blank (drop to text)
  end_is = e ∙ ap (λ l. to + span blank (drop to l)) (r ∙ q)

  read_is : read text ≡ run full to (between (after (tree_of n))) (drop to text)
  read_is =
      let h = subst (λ p. Leads xs start before to p) w l in
      let a = subst (λ l. Leads l start before to (Ok (after (tree_of n)))) q h in
      subst (λ k. run full k (between before) (drop k text) ≡ run full to (between (after (tree_of n))) (drop to text)) z a

  pub text_trails : end < length text → read text ≡ Err (Broken end)
  text_trails l = read_is ∙ trailing text to (tree_of n) end end_is l

  pub text_read : length text ≤ end → read text ≡ Ok (tree_of n)
  text_read l = read_is ∙ all_read text to (tree_of n) end end_is l

-- A text that is cut as too long.
pub cut_answers : (o : Result Tree TextFault) (r : Result TreeValue TextFault) → Answers o r → Answers (too_long o) (Err (cut r))
cut_answers o (Ok n) e = ap too_long e
cut_answers o (Err (Limit at)) e = ap too_long e
cut_answers o (Err (Broken at)) e = go (ltb at 65536) (ap too_long e)
  where
    go : (b : Bool) → too_long o ≡ cond b (Err (Broken at)) (Err (Limit 65535)) → Answers (too_long o) (Err (cond b (Broken at) (Limit 65535)))
    go true h = h
    go false h = h
cut_answers o (Err (NoMemory w)) e = tt

pub short_answers : (text : List ℕ) (r : Result TreeValue TextFault) → length text ≤ 65535 → Answers (read text) r → Answers (reading text) r
short_answers text r l h = subst (λ o. Answers o r) (sym (cond-true (leb (length text) 65535) (read text) (too_long (read (take 65536 text))) (le-leb (length text) 65535 l))) h

pub long_answers : (text part : List ℕ) (r : Result TreeValue TextFault) → 65535 < length text → part ≡ take 65536 text → Answers (read part) r → Answers (reading text) (Err (cut r))
long_answers text part r l q h =
    subst (λ o. Answers o (Err (cut r))) (sym (cond-false (leb (length text) 65535) (read text) (too_long (read (take 65536 text))) (lt-leb (length text) 65535 l)))
    (cut_answers (read (take 65536 text)) r (subst (λ p. Answers (read p) r) q h))
