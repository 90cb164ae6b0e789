use Rattle.std.proofs.Common.{◌≡◌, sym, ◌∙◌}
use Rattle.olr_spec.proofs.AscendingLists.{place_of, IsSearchResult, found_there, there_found}
use Rattle.olr_model.proofs.footprint.Footprint.has.Goals as goal

pub returns : goal.returns
returns c =
    let items : c.deref.result.now ≡ c.args.self.now = c.deref.ensures.value ∙ c.self.view_is in
    let place =
    place_of c.self.inside.nodes.items c.args.node c.binary_search.result c.self.invariant
    (rw c.deref.ensures.value at c.binary_search.ensures.position) in
    let here : IsSearchResult c.args.self.now c.args.node c.binary_search.result = rw c.self.view_is at place in (
      λ h. found_there c.args.self.now c.args.node c.binary_search.result here (sym c.is_ok.ensures.value ∙ h),
      λ h. c.is_ok.ensures.value ∙ there_found c.args.self.now c.args.node c.binary_search.result here h,
    )
