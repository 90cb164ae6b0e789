use Rattle.olr_paths.proofs.Common.{◌≡◌, refl, ◌∙◌, true, false, List, Option, sym, subst, arith, IfSome, items}
use Rattle.olr_paths.proofs.Common.{all_put, get_or, puts_of, NamedPath, set_value_at, All-pop, length-set_value_at}
use Rattle.olr_paths.proofs.NamedEntries.{items_of}
use Rattle.olr_paths.proofs.PathIdLemmas.{NamedNoted, each_set}
use Rattle.olr_paths.proofs.NotedPositions.{One, NotedAt, placed, passed_by}
use Rattle.olr_paths.proofs.positions.place.Goals as goal

pub invariant_of-list-in-Some : goal.invariant_of-list-in-Some
invariant_of-list-in-Some c =
    let l = c.loop-position.list in
    let es = l.paths.entries in
    let ms = l.path_ids.items in
    let q = c.in-Some.position in
    let n : NamedPath = c.in-Some.named in
    let popped = All-pop (NotedAt ms l.finder) _ _ _ c.pop.ensures.items c.loop-position.invariant.1 in
    let one : NotedAt ms l.finder (q, n) =
    subst (λ (o : Option One). IfSome o (NotedAt ms l.finder)) c.in-Some.is popped.1 in
    let within = c.in-Some-get_index_mut.ensures.found.0 refl in
    record {
      long = l.long ∙ sym (length-set_value_at es q c.replace-earlier.new.dest);
      ascend = l.ascend;
      noted =
          rw c.replace-earlier.ensures.after (each_set (λ k. NamedNoted l.finder (get_or ms k 0)) es q n (λ k e ne. l.noted k e)
          (one (omega (arith, within, l.long))));
      encoded = λ off. let never : true ≡ false = sym c.loop-position.invariant.3 ∙ off in absurd cc;
    }

pub loop-position-preserved : goal.loop-position-preserved
loop-position-preserved c =
    let l = c.loop-position.list in
    let es = l.paths.entries in
    let q = c.in-Some.position in
    let n : NamedPath = c.in-Some.named in
    let rest : List One = c.pop.new.self.items in (
      subst (λ (m : NamedPath). all_put (items_of (set_value_at es q m)) (puts_of rest)
          ≡ all_put (items c.args.list.now) (puts_of c.args.fresh.items)) (sym c.replace-earlier.ensures.after)
          (placed es q n c.loop-position.fresh.items rest c.pop.result c.pop.ensures.items c.in-Some.is _
          c.loop-position.invariant.0),
      (All-pop (NotedAt l.path_ids.items l.finder) _ _ _ c.pop.ensures.items c.loop-position.invariant.1).0,
      omega (
        arith,
        c.loop-position.invariant.2,
        c.push_reserved.ensures.len,
        c.push_reserved.ensures.capacity,
        c.in-Some.ensures.len,
      ),
      c.loop-position.invariant.3,
    )

pub loop-position-preserved-in_default-get_index_mut : goal.loop-position-preserved-in_default-get_index_mut
loop-position-preserved-in_default-get_index_mut c =
    let l = c.loop-position.list in (
      passed_by _ _ _ _ _ _ c.pop.ensures.items c.in-Some.is _ c.loop-position.invariant.0
          c.in_default-get_index_mut.ensures.value,
      (All-pop (NotedAt l.path_ids.items l.finder) _ _ _ c.pop.ensures.items c.loop-position.invariant.1).0,
      omega (arith, c.loop-position.invariant.2, c.in-Some.ensures.len),
      c.loop-position.invariant.3,
    )
