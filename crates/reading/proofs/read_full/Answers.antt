-- What a turn adds stands right behind what stood in the buffer before.
use Rattle.std.proofs.Common.{◌≡◌, ℕ, ◌+◌, ◌-◌, ◌≤◌, List, ◌++◌, rules, length, take, sym, ap, ◌∙◌, subst, length-take-le}
use Rattle.std.specs.Io.KnownBytes.{Consumes}
use Rattle.std.proofs.KnownBytes.{Consumes-trans}
use Rattle.std.proofs.Math.Seq.{take-append-add}
use Rattle.std.proofs.lemmas.List.{take-append-le}
use borrow.Rule.Slice.PartMut.{put_mid, post_of}
use Rattle.reading.proofs.read_full.Goals as goal

-- Up to the new place stands what stood up to the old one, and behind it the first bytes of what was put in there.
take_put_mid : (a k n : ℕ) (xs ys : List ℕ) → a ≤ length xs → n ≤ length ys → take (a + n) (put_mid a k xs ys) ≡ take a xs ++ take n ys
take_put_mid a k n xs ys within fits =
    let put = ys ++ post_of a k xs in
    ap (λ m. take (m + n) (take a xs ++ put)) (sym (length-take-le a xs within)) ∙ take-append-add (take a xs) put n ∙ ap (λ l. take a xs ++ l) (take-append-le n ys (post_of a k xs) fits)

pub loop-preserved : goal.loop-preserved
loop-preserved g c =
    let now = take_put_mid c.loop.done (length c.loop.buf - c.loop.done) c.in_ok-n.n c.loop.buf c.read.new.buf c.loop.invariant.1 c.in_ok-n.ensures.bound.0 in
    (search rules, search rules, search rules, subst (Consumes _ _) (sym now) (Consumes-trans _ _ _ _ _ c.loop.invariant.3 c.in_ok-n.ensures.bytes.0))
