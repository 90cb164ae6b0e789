use Rattle.olr_input.proofs.Common.{◌≡◌, ◌∙◌, ℕ, List, [], length, drop, ap, refl, rules, drop-length, block_of}
use Rattle.olr_input.proofs.LinesRead.{Kept, block_steps}
use Rattle.olr_input.proofs.line_records.LineRecords.keep_block.Goals as goal

pub returns : goal.returns
returns g c =
    let s = c.args.self.now in
    let block = block_of s.source in
    let keeps : Kept s.line.items block c.keep.new.line.items = search rules in
    let empty : block_of c.consume.new.self ≡ [] =
    c.consume.ensures.block ∙ ap (λ (l : List ℕ). drop (length l) block) c.block-block.ensures ∙ drop-length block in
    block_steps g.R.Read.remaining s
    (record {
      source = c.consume.new.self;
      is_first = s.is_first;
      line = c.keep.new.line;
      field = s.field;
      failed = s.failed;
    }) [] c.requires.one c.requires.block keeps refl empty (ap g.R.Read.remaining c.consume.ensures.input)
