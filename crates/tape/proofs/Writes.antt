-- Bytes that are written one after the other.
use Rattle.std.proofs.Common.{◌≡◌, ℕ, ◌+◌, ◌-◌, ◌≤◌, List, [], ◌++◌, length, take, drop, arith, ap, sym, ◌∙◌, append_assoc, append-nil, length-append}
use Rattle.std.proofs.lemmas.List.{take_at, drop_at, drop-drop, take_all, drop_all, take-take, take-append-le, length-drop}
use Rattle.tape.specs.Making.{over}

-- over the front of some, and then behind these
pub over_twice : (rest hs es one two : List ℕ) (a k : ℕ) → a ≡ length hs → k ≡ length one - a → one ≡ over rest hs → two ≡ over (take k (drop a one)) es
    → take a one ++ (two ++ drop k (drop a one)) ≡ over rest (hs ++ es)
over_twice rest hs es one two a k ea ek eo et =
    let left : drop a one ≡ drop (length hs) rest = ap (drop a) eo ∙ drop_at hs (drop (length hs) rest) a (sym ea) in
    let front : take a one ≡ hs = ap (take a) eo ∙ take_at hs (drop (length hs) rest) a (sym ea) in
    let long = length-drop a one in
    let all : take k (drop a one) ≡ drop a one = take_all k (drop a one) (omega arith) in
    let none : drop k (drop a one) ≡ [] = drop_all k (drop a one) (omega arith) in
    let back : drop (length es) (take k (drop a one)) ≡ drop (length (hs ++ es)) rest =
    ap (drop (length es)) (all ∙ left) ∙ drop-drop (length es) (length hs) rest ∙ ap (λ n. drop n rest) (sym (length-append hs es)) in
    rw (front, et, none, append-nil (over (take k (drop a one)) es), back) (sym (append_assoc hs es (drop (length (hs ++ es)) rest)))

-- behind the used bytes: these and what was written are used next
pub used_next : (bs rest es new old : List ℕ) (n m : ℕ) → n ≡ length bs + length es → n ≤ m → new ≡ bs ++ over rest es → take n (take m (new ++ old)) ≡ bs ++ es
used_next bs rest es new old n m en l e =
    let back = drop (length es) rest in
    let front : new ≡ (bs ++ es) ++ back = e ∙ sym (append_assoc bs es back) in
    let k = length-append bs es in
    let long : length new ≡ length (bs ++ es) + length back = ap length front ∙ length-append (bs ++ es) back in
    take-take n m (new ++ old) l ∙ take-append-le n new old (omega arith) ∙ ap (take n) front ∙ take_at (bs ++ es) back n (omega arith)
