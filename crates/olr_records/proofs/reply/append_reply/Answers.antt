use Rattle.olr_records.proofs.Common.{entry_line, entry_of, name_line, obstacle_line, string_bytes, named_obstacle_of}
use Rattle.std.proofs.lemmas.Simd.{map-map}
use Rattle.olr_records.proofs.reply.append_reply.Goals as goal

pub returns-in-Paths : goal.returns-in-Paths
returns-in-Paths c =
    rw (c.in-Paths.is, map-map (λ e. entry_line e) (λ e. entry_of e) c.in-Paths.entries.items, ← c.deref.ensures.value)
    c.push_paths.ensures

pub returns-in-Names : goal.returns-in-Names
returns-in-Names c =
    rw (c.in-Names.is, map-map (λ n. name_line n) (λ n. string_bytes n) c.in-Names.names.items, ← c.deref-in-Names.ensures.value)
    c.push_names.ensures

pub returns-in-Obstacles : goal.returns-in-Obstacles
returns-in-Obstacles c =
    rw (c.in-Obstacles.is, map-map (λ e. obstacle_line e) (λ e. named_obstacle_of e) c.in-Obstacles.found.items, ← c.deref-in-Obstacles.ensures.value)
    c.push_obstacles.ensures
