-- Rust's commands, replies and faults as those of the definitions.
--     command_of, named_obstacle_of, reply_of, command_fault_of, outcome_of
use Rattle.std.specs.Prelude.{ℕ, List, map, Result, option_map, string_bytes}
use Rattle.std.specs.Option.{option_map_or}
use Rattle.std.specs.Result.{result_map_both}
use Rattle.olr_spec.specs.Extension.{Path}
use Rattle.olr_spec.specs.Map as map_faults
use Rattle.olr_model.specs.Edits.{edit_of}
use Rattle.olr_model.specs.declared.edit.EditFault.{EditFault}
use Rattle.olr_model.specs.declared.edit.EditFault.TheVariants as edit
use Rattle.olr_binary.specs.Faults.{bytes_fault_of}
use Rattle.olr_binary.specs.declared.faults.TextFault.{TextFault}
use Rattle.olr_binary.specs.declared.faults.TextFault.TheVariants as text
use Rattle.olr_answers.specs.Answers.{refusal_of}
use Rattle.olr_answers.specs.Ambiguities.{found_of}
use Rattle.olr_commands.specs.Ambiguities as ambiguities
use Rattle.olr_commands.specs.State as state
use Rattle.olr_commands.specs.Reply as reply
use Rattle.olr_commands.specs.declared.command.Command.{Command}
use Rattle.olr_commands.specs.declared.command.Command.TheVariants as command
use Rattle.olr_commands.specs.declared.reply.Entry.{Entry}
use Rattle.olr_commands.specs.declared.reply.NamedObstacle.{NamedObstacle}
use Rattle.olr_commands.specs.declared.reply.Reply.{Reply}
use Rattle.olr_commands.specs.declared.reply.Reply.TheVariants as answered
use Rattle.olr_commands.specs.declared.fault.CommandFault.{CommandFault}
use Rattle.olr_commands.specs.declared.fault.CommandFault.TheVariants as fault

abbrev pub path_along : List ℕ → ℕ → ℕ → Path
path_along lines positive negative = record { lines = lines; pos = positive; neg = negative }

abbrev pub command_of : Command → state.Command
command_of (command.Edit e) = state.Make (state.On_map (edit_of e))
command_of (command.AddPath name lines p n) =
    state.Make (state.Add_path (string_bytes name) (path_along lines.items p n))
command_of (command.SetPath name lines p n) =
    state.Make (state.Set_path (string_bytes name) (path_along lines.items p n))
command_of (command.DropPath name) = state.Make (state.Drop_path (string_bytes name))
command_of (command.SetMargin g) = state.Make (state.Set_margin g)
command_of (command.Show name) = state.Show (string_bytes name)
command_of (command.ShowNode v) = state.Show_node v
command_of (command.ShowLine x) = state.Show_line x
command_of command.ShowMargin = state.Show_margin
command_of (command.Depends nodes) = state.Depends nodes.items
command_of command.Report = state.Report
command_of command.Dump = state.Dump
command_of command.Compact = state.Compact
command_of (command.Ambiguous name) = state.Ambiguous (option_map string_bytes name)
command_of (command.Explain text) = state.Explain text.items
command_of command.Begin = state.Begin
command_of command.Preview = state.Preview
command_of (command.Commit count) = state.Commit count
command_of command.Abort = state.Abort

abbrev pub entry_of : Entry → reply.Entry
entry_of e = record { name = string_bytes e.name; published = result_map_both string_bytes refusal_of e.published }

abbrev pub named_obstacle_of : NamedObstacle → ambiguities.NamedObstacle
named_obstacle_of e = ambiguities.named (string_bytes e.name) (found_of e.found)

abbrev pub reply_of : Reply → reply.Reply
reply_of (answered.Paths entries) = reply.Paths (map entry_of entries.items)
reply_of (answered.Fields r) = reply.Fields r
reply_of (answered.Held count) = reply.Held count
reply_of (answered.Dump d) = reply.Dumped d.count d.text.items
reply_of (answered.Records d) = reply.Records d.count d.text.items
reply_of (answered.Names names) = reply.Names (map string_bytes names.items)
reply_of (answered.Obstacles found) = reply.Obstacles (map named_obstacle_of found.items)

-- out of memory is one fault, wherever it was reported
abbrev pub map_fault_of : EditFault → state.Fault
map_fault_of edit.NodeExists = state.Map_fault map_faults.Node_exists
map_fault_of edit.NoNode = state.Map_fault map_faults.No_node
map_fault_of edit.LineExists = state.Map_fault map_faults.Line_exists
map_fault_of edit.NoLine = state.Map_fault map_faults.No_line
map_fault_of edit.NodeInUse = state.Map_fault map_faults.Node_in_use
map_fault_of edit.BadShape = state.Map_fault map_faults.Bad_shape
map_fault_of edit.Memory = state.Memory

abbrev pub text_fault_of : TextFault → state.Fault
text_fault_of (text.Bytes f) = option_map_or (λ g. state.Not_a_reference (state.Not_v3 g)) (bytes_fault_of f) state.Memory
text_fault_of text.NotBase64 = state.Not_a_reference state.Not_base64

abbrev pub command_fault_of : CommandFault → state.Fault
command_fault_of (fault.Map f) = map_fault_of f
command_fault_of fault.PathExists = state.Path_exists
command_fault_of fault.NoPath = state.No_path
command_fault_of fault.BadPath = state.Bad_path
command_fault_of (fault.NotAReference f) = text_fault_of f
command_fault_of fault.Memory = state.Memory
command_fault_of fault.BatchOpen = state.Batch_open
command_fault_of fault.NoBatch = state.No_batch
command_fault_of fault.CountDiffers = state.Count_differs
command_fault_of fault.BatchFull = state.Batch_full
command_fault_of fault.NotARecord = state.Not_a_record

abbrev pub outcome_of : Result Reply CommandFault → reply.Outcome
outcome_of result = result_map_both reply_of command_fault_of result
