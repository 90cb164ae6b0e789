use Rattle.olr_input.proofs.Common.{◌≡◌, ◌≤◌, ◌∙◌, ◌++◌, length, take, drop, min, rules, ap, block_of, input_left}
use Rattle.olr_input.proofs.BlockLemmas.{consumes_stored, given_front, front_copied, none_given, has_room}
use Rattle.olr_input.proofs.blocks.BlocksRead.read.Goals as goal

pub returns-clause-bytes : goal.returns-clause-bytes
returns-clause-bytes g c =
    let left = input_left g.R.Read.remaining in
    let b = c.fill.new.self in
    let block = block_of b in
    let bytes = c.args.bytes.now in
    let n = c.min-count.result in
    let copied : c.copy_from_slice.new.self ≡ take n block = search rules in
    let within : n ≤ length block = search rules in
    let many : length c.copy_from_slice.new.self ≡ n = search rules in
    let size : n ≡ min (length block) (length bytes) =
    c.min-count.ensures ∙ ap (λ l. min (length l) (length bytes)) c.block-block.ensures in
    let same = ap g.R.Read.remaining c.consume.ensures.input in (
      consumes_stored (left c.args.self.now) (left b) (left c.consume.new.self) _ c.fill.ensures.keeps
          (given_front (g.R.Read.remaining b.input) (g.R.Read.remaining c.consume.new.self.input) block
          (block_of c.consume.new.self) (take n (c.copy_from_slice.new.self ++ drop n bytes)) n same c.consume.ensures.block
          (front_copied c.copy_from_slice.new.self (drop n bytes) block n copied within)),
      λ none some. none_given (g.R.Read.remaining b.input) (g.R.Read.remaining c.consume.new.self.input) block
          (block_of c.consume.new.self) n (length bytes) same c.consume.ensures.block size c.in_ok-fill.ensures.end none
          (has_room c.copy_from_slice.new.self bytes n many none some),
    )
