-- Counts of work, of 64 bits.
--     saturated_count n      a count saturates at the greatest number of 64 bits
--     raised_count count n      a count that is raised by n, as far as 64 bits allow
--     no_work, raised_work w more      no work;  each count of w raised by that of more
use Rattle.std.specs.Prelude.{ℕ, ◌+◌, ◌-◌, ◌^◌, min}
use Rattle.olr_search.specs.declared.work.Work.{Work}

abbrev pub saturated_count : ℕ → ℕ
saturated_count n = min n (2 ^ 64 - 1)

abbrev pub raised_count : ℕ → ℕ → ℕ
raised_count count n = count + min n (2 ^ 64 - 1 - count)

abbrev pub no_work : Work
no_work = record { encodings = 0; searches = 0; settled = 0 }

abbrev pub raised_work : Work → Work → Work
raised_work w more =
    record {
      encodings = raised_count w.encodings more.encodings;
      searches = raised_count w.searches more.searches;
      settled = raised_count w.settled more.settled;
    }
