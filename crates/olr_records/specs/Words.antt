-- What reading a record returns, in terms of Rust's values.
--     Reads view x r      r is x, seen through `view`; it takes no memory
--     Gathers Takes view x r      the same, but r may be out of memory if the value of x takes memory
--     ReadsBy Returns one      a function reads each field as `one` says, where it may return what `Returns` says
--     IsRead x r      the same for a command, which takes memory if it holds a list
--     worse_fault f g      of two faults, the one that takes precedence.
--     both r s      both parts of a record, or the fault that takes precedence
--     read_fault_of f      the command's fault for a fault of the record
use Rattle.std.specs.Prelude.{◌≡◌, Result, Ok, Err, IsOkAnd}
use Rattle.olr_commands.specs.State as state
use Rattle.olr_commands.specs.Words.{command_of}
use Rattle.olr_commands.specs.declared.command.Command.{Command}
use Rattle.olr_records.specs.Records.{Field, Read, Bad_form, Out_of_range, HoldsList}
use Rattle.olr_records.specs.declared.faults.ReadFault.{ReadFault}
use Rattle.olr_records.specs.declared.faults.ReadFault.TheVariants.{Syntax, Range, Memory}

abbrev pub Reads : {A B : Type 0} → (A → B) → Read B → Result A ReadFault → Type 0
Reads view x (Ok a) = x ≡ Ok (view a)
Reads view x (Err Syntax) = x ≡ Err Bad_form
Reads view x (Err Range) = x ≡ Err Out_of_range
Reads view x (Err Memory) = ⊥

abbrev pub ReadsBy : {A : Type 0} → (Field → Result A ReadFault → Type 0) → (Field → Read A) → Type 0
ReadsBy Returns one = (f : Field) (r : Result _ ReadFault) → Returns f r → Reads (λ a. a) (one f) r

abbrev pub Gathers : {A B : Type 0} → (B → Type 0) → (A → B) → Read B → Result A ReadFault → Type 0
Gathers Takes view x (Err Memory) = IsOkAnd x Takes
Gathers Takes view x r = Reads view x r

abbrev pub IsRead : Read state.Command → Result Command ReadFault → Type 0
IsRead x r = Gathers HoldsList command_of x r

-- Syntax takes precedence over Range, and both over out of memory
abbrev pub worse_fault : ReadFault → ReadFault → ReadFault
worse_fault Syntax g = Syntax
worse_fault Range Syntax = Syntax
worse_fault Range g = Range
worse_fault Memory g = g

abbrev pub both : {A B : Type 0} → Result A ReadFault → Result B ReadFault → Result (A × B) ReadFault
both (Ok a) (Ok b) = Ok (a, b)
both (Ok a) (Err f) = Err f
both (Err f) (Ok b) = Err f
both (Err f) (Err g) = Err (worse_fault f g)

abbrev pub read_fault_of : ReadFault → state.Fault
read_fault_of Syntax = state.Syntax
read_fault_of Range = state.Range
read_fault_of Memory = state.Memory
