use Rattle.olr_renewal.proofs.Common.{Item, List, Map, Renewal, items, AreRenewed, IsRenewed, IsPutIn, none_removed_by}
use Rattle.olr_renewal.specs.declared.renewal.Renewed.{Renewed}
use Rattle.olr_renewal.specs.declared.update.MapUpdate.{MapUpdate}
use Rattle.olr_renewal.proofs.reencode.renew_over.Goals as goal

-- the renewal, as it is put in the list and returned
put : {M : Type 0} (map : M → Map) (u : MapUpdate M) (before is js : List Item) (r : Renewal) (s : Renewed) →
    IsRenewed map u before is r → IsPutIn u is r js s → AreRenewed map u before is js s
put map u before is js r s h t = record {
  reencoded = rw t.items h.reencoded;
  named = rw t.items h.named;
  reported = rw (t.items, t.entries) h.reported;
  counted = λ L q. let k = h.counted L q in (k.0, k.1, rw t.work k.2);
}

pub put_results-requires-clause-none_removed : goal.put_results-requires-clause-none_removed
put_results-requires-clause-none_removed g c = rw c.in_default.is at c.in_ok-renewal.ensures.copied

pub put_results-requires-clause-reported : goal.put_results-requires-clause-reported
put_results-requires-clause-reported g c = (items c.args.list.now, c.in_ok-renewal.ensures.renewed.reported)

pub returns-in_default-clause-renewed : goal.returns-in_default-clause-renewed
returns-in_default-clause-renewed g c =
    rw c.index.ensures (put g.M.MapRead.map c.args.update.now _ _ _ _ _ c.in_ok-renewal.ensures.renewed
    c.in_ok-renewed.ensures.put)

pub returns-in_default-clause-queries : goal.returns-in_default-clause-queries
returns-in_default-clause-queries g c = rw c.index.ensures c.in_ok-renewed.ensures.put.queries

-- if a path is removed: of the list under the changes
pub put_results-requires-2 : goal.put_results-requires-2
put_results-requires-2 g c =
    let copied = rw c.in-Some.is at c.in_ok-renewal.ensures.copied in
    rw (c.new-none.ensures (items c.in-Some.copy)) (record {
      none_removed = none_removed_by _ _ c.new-none.ensures;
      names = rw copied c.requires.names;
      reported = (items c.args.list.now, rw copied c.in_ok-renewal.ensures.renewed.reported);
    })

pub returns-clause-renewed : goal.returns-clause-renewed
returns-clause-renewed g c =
    rw c.replace_by.ensures (put g.M.MapRead.map c.args.update.now _ _ _ _ _ c.in_ok-renewal.ensures.renewed
    (rw (rw c.in-Some.is at c.in_ok-renewal.ensures.copied) at (rw (c.new-none.ensures (items c.in-Some.copy)) at
    c.in_ok-renewed-2.ensures.put)))

pub returns-clause-queries : goal.returns-clause-queries
returns-clause-queries g c =
    rw c.replace_by.ensures (rw (rw c.in-Some.is at c.in_ok-renewal.ensures.copied) at
    (rw (c.new-none.ensures (items c.in-Some.copy)) at c.in_ok-renewed-2.ensures.put).queries)
