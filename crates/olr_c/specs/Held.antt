-- What the pointer of a handle owns.
--     owns_keep p heap held      nothing, or the value and the permission to free its block
--     coded_held      the code by which proofs distinguish such values
use Rattle.std.specs.Prelude.{Option, Some, None}
use base.Fml.{Fml, ftrue}
use denote.RawPtr.{Ptr}
use Rattle.std.specs.Coded.{Coded, coded_option}
use Rattle.std.specs.Box.Ownership.{box_owns}
use Rattle.std.specs.declared.alloc.Global.{Global}
use Rattle.std.specs.contracts.impls.GlobalAllocator.TheImpl.{ghosts}
use Rattle.olr_c.specs.declared.keep.Keep.{Keep}
use Rattle.olr_c.specs.contracts.keep.Keep.{the_row}

abbrev pub coded_held : Coded (Option Keep)
coded_held = coded_option the_row.coded

abbrev pub owns_keep : Ptr → Global → Option Keep → Fml
owns_keep p heap None = ftrue
owns_keep p heap (Some x) = box_owns (ghosts.dealloc_token heap) the_row p x
