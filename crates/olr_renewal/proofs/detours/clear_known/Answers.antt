use Rattle.olr_renewal.proofs.Common.{◌≡◌, List, ◌∷◌, [], ◌++◌, ap, sym, subst, ◌∙◌, Global, KnownQuery, CoverageQuery, Vec}
use Rattle.olr_renewal.proofs.Common.{changed_of, All-nil, All-push, known_stays, IsClear, IsKnownWith}
use Rattle.olr_renewal.proofs.detours.clear_known.Goals.{then-branch+in_ok-push, else-branch}
use Rattle.olr_renewal.proofs.detours.clear_known.Goals as goal

pub loop-one-preserved : goal.loop-one-preserved
loop-one-preserved g c =
    let N = g.M.MapRead.map c.args.update.now.map.now in
    let C = changed_of c.args.update.now.touched.now in
    let item : KnownQuery = c.one-item.result in
    let old : List KnownQuery = c.loop-one.clear.items in (
      (λ m M ls there here are.
          let h = c.loop-one.invariant.0 m M ls there here are in
          elim c.if-branch.branch [
            | then-branch+in_ok-push w ↦
                let clear = subst (λ (l : CoverageQuery). IsClear N C l) (ap (λ (e : KnownQuery). e.query) c.one.view_is)
                (c.in_ok-is_clear.ensures.clear w.if-branch.true) in
                let grown : c.if-branch.clear.items ≡ old ++ item ∷ [] =
                ap (λ (v : Vec KnownQuery Global). v.items) w.clear-is
                ∙ (w.in_ok-push.ensures.items ∙ ap (λ (e : KnownQuery). old ++ e ∷ []) c.one.view_is) in
                let known : IsKnownWith m M ls item = subst (IsKnownWith m M ls) (sym c.one-item.is) (are _ item c.loop-one-test.true) in
                rw grown (All-push (IsKnownWith m N ls) old item h (known_stays M N C there here ls item known clear))
            | else-branch w ↦
                let same : c.if-branch.clear.items ≡ old = ap (λ (v : Vec KnownQuery Global). v.items) w.clear-is in
                rw same h
          ]),
      c.in_ok-is_clear.ensures.detours,
    )

pub loop-one-init : goal.loop-one-init
loop-one-init g c = (
  (λ m M ls there here are. rw c.new-clear.ensures.items (All-nil (IsKnownWith m (g.M.MapRead.map c.args.update.now.map.now) ls))),
  c.requires (c.are_few.ensures.0 c.if-not-are_few.false),
)

pub returns-clause-clear : goal.returns-clause-clear
returns-clause-clear g c = c.loop-one.invariant.0

pub returns-then-not-are_few-clause-clear : goal.returns-then-not-are_few-clause-clear
returns-then-not-are_few-clause-clear g c = λ m M ls there here are.
    rw c.new-clear.ensures.items (All-nil (IsKnownWith m (g.M.MapRead.map c.args.update.now.map.now) ls))
