-- Dumps in runs of records, and the faults that a command has by its state.
use Rattle.olr_run.proofs.Common.{IfErr, ⊤, length-map, Outcome, IsRefusal, ByState, Field, read, CommandOutcome, RecordOutcome}
use Rattle.olr_run.proofs.Common.{SoundOutcomes, IsReply, count_line, reply_text, read_recorded, arith, Bool, false, List}
use Rattle.olr_run.proofs.Common.{Option, Some, None, Result, inl, inr, ◌≢◌, ℕ, [], ◌∷◌, ◌++◌, map, length, Ok, Err, IsTrue}
use Rattle.olr_run.proofs.Common.{refl, sym, subst, true, not, nat_cmp, and_parts, ne_eqb, list_all, Map, Fault, Memory}
use Rattle.olr_run.proofs.Common.{Content, Change, Command, Make, Not_a_record, is_recordable, after, with_change, step_in}
use Rattle.olr_run.proofs.Common.{IsContent, Dump, State, Show_node, Show_line, Map_fault, when, Lacks, Reply, Read, Builds}
use Rattle.olr_run.proofs.Common.{IsDumpOf, Dumps, concat, fields_of_change, dump_lines, dumps_run, HaveRecords, IsRecorded}
use Rattle.olr_run.proofs.Common.{StaysRecorded, records_split, all_lines, step_stays, recorded_dumps, record_back}
use Rattle.std.proofs.lemmas.Bool.{cases_eq, eq-eqb}
use Rattle.std.specs.FinMap.{get, entries, get-entries, FinMap}
use Rattle.std.specs.FinMap.Entries.{find}
use Rattle.olr_spec.specs.Map.{Line, MapFault, No_node, No_line, has_node, has_line, no_coord, no_line, start, end, line_at}
use Rattle.olr_commands.specs.Recordable.{is_recordable_map, is_recordable_coord, is_recordable_shape, has_node_record}
use Rattle.olr_commands.specs.Recordable.{has_line_records}
use Rattle.std.specs.Prelude.{◌≡◌, unwrap_or}

-- ---- the faults that a command has by its state

-- none is out of memory, and one is that the content can't be written as records only if it can't
abbrev pub IsOfStep : Bool → Fault → Type 0
IsOfStep recordable Memory = ⊥
IsOfStep recordable Not_a_record = recordable ≡ false
IsOfStep recordable fault = ⊤

abbrev OfStep : {A : Type 0} → Bool → Result A Fault → Type 0
OfStep b r = IfErr r (IsOfStep b)

change_of_step : (k : Bool) (c : Content) (x : Change) → OfStep k (with_change c x)
change_of_step k c x = grind arith

all_find : {X : Type 0} (f : ℕ × X → Bool) (es : List (ℕ × X)) (k : ℕ) (v : X) → find nat_cmp k es ≡ Some v →
    list_all f es ≡ true → f (k, v) ≡ true
all_find f [] k v is all = absurd cc
all_find f (e ∷ es) k v is all =
    grind (arith, cases_eq, find, nat_cmp, eq-eqb, ne_eqb, and_parts, all_find f es k v)

-- what passes for each item of a map, and for what stands for one that it doesn't have
item_passes : {X : Type 0} (test : X → Bool) (m : FinMap nat_cmp X) (k : ℕ) (none : X) → test none ≡ true →
    list_all (λ e. test e.1) (entries m) ≡ true → test (unwrap_or (get m k) none) ≡ true
item_passes {X} test m k none missing all = by (get m k) (sym (get-entries m k))
  where
    by : (o : Option X) → find nat_cmp k (entries m) ≡ o → test (unwrap_or o none) ≡ true
    by (Some v) is = all_find (λ e. test e.1) (entries m) k v is all
    by None is = missing

-- records can write each node and each line of such a map
node_written : (M : Map) (v : ℕ) → is_recordable_map M ≡ true → has_node_record M v ≡ true
node_written M v can = item_passes is_recordable_coord M.nodes v no_coord refl (and_parts _ _ can).0

shape_written : (M : Map) (x : ℕ) → is_recordable_map M ≡ true → is_recordable_shape (line_at M x).shape ≡ true
shape_written M x can = item_passes (λ (l : Line). is_recordable_shape l.shape) M.lines x no_line refl (and_parts _ _ can).1

line_written : (M : Map) (x : ℕ) → is_recordable_map M ≡ true → has_line_records M x ≡ true
line_written M x can =
    grind (arith, node_written M (start M x) can, node_written M (end M x) can, shape_written M x can)

own_when : (k there ok : Bool) (fault : MapFault) (s : State) → (k ≡ true → ok ≡ true) →
    IfErr (when (not there) (Map_fault fault) (when (not ok) Not_a_record (Ok s))) (IsOfStep k)
own_when k false ok fault s h = tt
own_when k true true fault s h = tt
own_when false true false fault s h = refl
own_when true true false fault s h = absurd (let never = h refl in cc)

pub step_fault : (c : Content) (batch : Option (List Change)) (x : Command) →
    IfErr (step_in c batch x) (IsOfStep (is_recordable c))
step_fault c None (Show_node v) =
    own_when (is_recordable c) (has_node c.map v) (has_node_record c.map v) No_node (record { content = c; batch = None })
    (λ k. node_written c.map v (and_parts _ _ k).0)
step_fault c None (Show_line x) =
    own_when (is_recordable c) (has_line c.map x) (has_line_records c.map x) No_line (record { content = c; batch = None })
    (λ k. line_written c.map x (and_parts _ _ k).0)
step_fault c None (Make x) = grind (arith, change_of_step (is_recordable c) c x)
step_fault c (Some xs) (Make x) = grind (arith, change_of_step (is_recordable c) (after c xs) x)
step_fault c b x = grind arith

-- ---- the text

pub all_back : (xs : List Change) → HaveRecords xs →
    map read (map fields_of_change xs) ≡ map (λ c. Ok c) (map (λ x. Make x) xs)
all_back [] h = refl
all_back (x ∷ xs) h = grind (arith, record_back, all_back xs)

builds : (c : Content) → IsContent c → IsRecorded c → Builds (concat (dump_lines c)) (length (dump_lines c)) c
builds c sound h = grind (arith, records_split, all_lines, length-map, all_back, dumps_run)

-- ---- one record

-- the reply to an accepted dump
of_reply : (s t : State) (c : Command) (reply : Reply) → IsContent s.content → IsRecorded s.content →
    IsReply s c t reply → c ≡ Dump →
    (n : ℕ) × (text : List ℕ) × (reply_text reply ≡ count_line n ++ text) × Builds text n s.content
of_reply s t c reply sound h is same = grind (arith, builds)

not_refused : (s : State) (c : Command) (f : Fault) → IsTrue (is_recordable s.content) → IsRefusal s c f →
    f ≢ Not_a_record
not_refused s c f can (ByState e) = λ is.
    let of_step : IsOfStep (is_recordable s.content) f =
    subst (λ (r : Result State Fault). IfErr r (IsOfStep (is_recordable s.content))) e (step_fault s.content s.batch c) in
    let never : is_recordable s.content ≡ false = subst (λ (g : Fault). IsOfStep (is_recordable s.content) g) is of_step in
    cc (can, never)
not_refused s c f can (Lacks is may) = λ e. cc

command_dumps : (s t : State) (r : Read Command) (fields : List Field) (o : Outcome) → read fields ≡ r →
    IsContent s.content → StaysRecorded s → CommandOutcome s r o t → IsDumpOf s fields o × StaysRecorded t
command_dumps s t (Ok c) fields (Ok reply) is sound h p = grind (arith, of_reply, step_stays, read_recorded)
command_dumps s t (Ok c) fields (Err fault) is sound h p =
    (not_refused s c fault (recorded_dumps s.content h.0) p.0, subst StaysRecorded (sym p.1) h)
command_dumps s t (Err f) fields o is sound h p = grind arith

lacking_dumps : (s : State) (fields : List Field) (o : Outcome) → o ≡ Err Memory → IsDumpOf s fields o
lacking_dumps s fields o is = grind arith

record_dumps : (s : State) (fields : List Field) (o : Outcome) (t : State) → IsContent s.content → StaysRecorded s →
    RecordOutcome s fields o t → IsDumpOf s fields o × StaysRecorded t
record_dumps s fields o t sound h (inl p) = command_dumps s t (read fields) fields o refl sound h p
record_dumps s fields o t sound h (inr p) = grind (arith, lacking_dumps s fields o)

-- ---- runs

pub dumps_of : (s : State) (rs : List (List Field)) (os : List Outcome) (t : State) → IsContent s.content →
    StaysRecorded s → SoundOutcomes s rs os t → Dumps s rs os t
dumps_of s rs [] t sound h run = record { each = run; stays = subst StaysRecorded run h }
dumps_of s [] (o ∷ os) t sound h run = absurd run
dumps_of s (r ∷ rs) (o ∷ os) t sound h run =
    let first = record_dumps s r o run.0 sound h run.1.0 in
    let rest = dumps_of run.0 rs os t run.1.1 first.1 run.2 in
    record { each = (run.0, (run.1, first.0), rest.each); stays = rest.stays }
