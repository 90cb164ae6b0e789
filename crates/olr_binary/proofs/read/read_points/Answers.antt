use Rattle.olr_binary.proofs.Common.{◌∙◌, ◌+◌, ◌-◌, ◌*◌, List, arith, IsMiddle}
use Rattle.olr_spec.proofs.Common.{ℕ, All-push, All-from_recursion, recursion_from_All}
use Rattle.olr_binary.proofs.LayoutLemmas.{low_at}
use Rattle.olr_binary.proofs.PointLemmas.{flat_map-push}
use Rattle.olr_binary.proofs.read.read_points.Goals as goal

pub read_middle-requires : goal.read_middle-requires
read_middle-requires c =
    let i = c.loop-i.i in
    let width = 10 + 7 * i + 7 - (10 + 7 * i) in
    let low =
    low_at c.args.bytes.now c.args.layout.middle c.args.layout.offsets c.requires.layout c.requires.sound (i + 1)
    (10 + 7 * i) width (omega arith) (omega arith) (omega arith) in
    record { reserved = rw c.bytes_at.ensures low }

pub loop-i-preserved : goal.loop-i-preserved
loop-i-preserved c =
    let b : List ℕ = c.args.bytes.now in
    let i = c.loop-i.i in
    rw c.in_ok-push.ensures.items record {
      encoded =
          flat_map-push b i c.loop-i.points.items c.read_middle.result c.loop-i.invariant.encoded
          (c.read_middle.ensures.encoded ∙ c.bytes_at.ensures);
      fits = recursion_from_All IsMiddle _ (All-push IsMiddle c.loop-i.points.items c.read_middle.result
          (All-from_recursion IsMiddle c.loop-i.points.items c.loop-i.invariant.fits) c.read_middle.ensures.fits);
    }
