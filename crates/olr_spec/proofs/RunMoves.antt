-- The tried runs are the same on two maps that agree around their nodes.
use Rattle.olr_spec.proofs.Common.{IsTrue, ap, ◌≡◌, ℕ, List, ◌∷◌, ◌++◌, length, ◌<◌, ◌∙◌, arith, append_assoc, append-nil}
use Rattle.olr_spec.proofs.Common.{length-append, [], cases_lt, Map, IsMap, start, end, dm, SameLine, has_line, passing, first}
use Rattle.olr_spec.proofs.Common.{last, MayPrecede, MayFollow, StartRun, EndRun, LongestStart, LongestEnd}
use Rattle.olr_spec.proofs.RouteLemmas.{dm_of-append, positive}
use Rattle.olr_spec.proofs.ListLemmas.{Each, Each-nil, Each-cons, Each-tail, Each-left, Each-right, has_first, has_last}
use Rattle.olr_spec.proofs.ListLemmas.{Known, EndsSame}
use Rattle.olr_spec.proofs.RunLemmas.{no_longer, start_runs, end_runs}
use Rattle.olr_spec.proofs.AgreeLemmas.{turned_round, by_entering, by_leaving, same_known, same_start, same_end}
use Rattle.olr_spec.proofs.AgreeLemmas.{same_dm, same_dm_of, same_passing}

-- line x, of both maps, is the same on both, and so are the lines around its ends
pub record Alike (M N : Map) (x : ℕ) : Type 0 where
  pub known : IsTrue (has_line M x)
  pub same : SameLine M N x
  pub ends : EndsSame M N x

pub turned_alike : (M N : Map) (x : ℕ) → Alike M N x → Alike N M x
turned_alike M N x a = grind (arith, same_known, same_start, turned_round, same_end)

pub same_begin : (M N : Map) (x : ℕ) → Alike M N x → passing M (start M x) ≡ passing N (start N x)
same_begin M N x a = same_passing M N (start M x) a.ends.0 ∙ ap (passing N) (same_start M N x a.same)

pub same_finish : (M N : Map) (x : ℕ) → Alike M N x → passing M (end M x) ≡ passing N (end N x)
same_finish M N x a = same_passing M N (end M x) a.ends.1 ∙ ap (passing N) (same_end M N x a.same)

pub StartRun-known : (M : Map) (c ls : List ℕ) → StartRun M c ls → Each (Known M) c
StartRun-known M [] ls h = Each-nil (Known M)
StartRun-known M (x ∷ c) ls h = Each-cons (Known M) x c h.0.known (StartRun-known M c ls h.1)

pub EndRun-known : (M : Map) (ls c : List ℕ) → EndRun M ls c → Each (Known M) c
EndRun-known M ls [] h = Each-nil (Known M)
EndRun-known M ls (x ∷ c) h = Each-cons (Known M) x c h.0.known (EndRun-known M (ls ++ x ∷ []) c h.1)

pub EndRun-push : (M : Map) (ls c : List ℕ) (x : ℕ) → EndRun M ls c → MayFollow M (ls ++ c) x → EndRun M ls (c ++ x ∷ [])
EndRun-push M ls [] x p q = (coe 0 1 (i. MayFollow M (append-nil ls i) x) q, tt)
EndRun-push M ls (y ∷ c) x p q = grind (arith, EndRun-push M (ls ++ y ∷ []) c x, append_assoc)

-- ---- on another map

-- a line that may precede or follow lines whose first or last is alike
precedes : (M N : Map) (x : ℕ) (ls : List ℕ) → Alike M N (first ls) → MayPrecede M x ls → MayPrecede N x ls × (dm M x ≡ dm N x)
precedes M N x ls a p = grind (arith, by_entering, same_known, same_end, same_start, same_passing, same_dm)

follows : (M N : Map) (ls : List ℕ) (x : ℕ) → Alike M N (last ls) → MayFollow M ls x → MayFollow N ls x × (dm M x ≡ dm N x)
follows M N ls x a p = grind (arith, by_leaving, same_known, same_end, same_start, same_passing, same_dm)

start_moves : (M N : Map) (c ls : List ℕ) → 0 < length ls → Each (Alike M N) (c ++ ls) → StartRun M c ls → StartRun N c ls
start_moves M N [] ls n a p = tt
start_moves M N (x ∷ c) ls n a p =
    let rest = Each-tail (Alike M N) x (c ++ ls) a in
    let some = has_first (c ++ ls) (omega (arith, length-append c ls)) in
    ((precedes M N x (c ++ ls) (rest (first (c ++ ls)) some) p.0).0, start_moves M N c ls n rest p.1)

end_moves : (M N : Map) (ls c : List ℕ) → 0 < length ls → Each (Alike M N) (ls ++ c) → EndRun M ls c → EndRun N ls c
end_moves M N ls [] n a p = tt
end_moves M N ls (x ∷ c) n a p = (
  (follows M N ls x (Each-left (Alike M N) ls (x ∷ c) a (last ls) (has_last ls n)) p.0).0,
  end_moves M N (ls ++ x ∷ []) c (omega (arith, length-append ls (x ∷ [])))
      (coe 1 0 (i. Each (Alike M N) (append_assoc ls (x ∷ []) c i)) a) p.1,
)

module _ (M N : Map) (m : IsMap M) (ls c : List ℕ) (n : 0 < length ls) where
  -- on M no line may come next to the longest run within the limit, and so none on N
  pub longest_start_moves : Each (Alike M N) (c ++ ls) → LongestStart M c ls → LongestStart N c ls
  longest_start_moves a l =
      let tip = a (first (c ++ ls)) (has_first (c ++ ls) (omega (arith, length-append c ls))) in
      let own = Each-right (Alike M N) c ls a (first ls) (has_first ls n) in
      let e = same_dm_of M N c (λ x i. (Each-left (Alike M N) c ls a x i).same) in
      let run = start_moves M N c ls n a l.run in
      record {
        run = run;
        within = omega arith;
        longest = λ d q. no_longer N _ _ (start_runs N ls (turned_alike M N _ own).known) c d run q (λ x p.
            let back = precedes N M x (c ++ ls) (turned_alike M N _ tip) p in
            grind (arith, cases_lt, positive M m x back.0.known, l.longest (x ∷ c) (back.0, l.run)));
      }

  pub longest_end_moves : Each (Alike M N) (ls ++ c) → LongestEnd M ls c → LongestEnd N ls c
  longest_end_moves a l =
      let tip = a (last (ls ++ c)) (has_last (ls ++ c) (omega (arith, length-append ls c))) in
      let own = Each-left (Alike M N) ls c a (last ls) (has_last ls n) in
      let e = same_dm_of M N c (λ x i. (Each-right (Alike M N) ls c a x i).same) in
      let run = end_moves M N ls c n a l.run in
      record {
        run = run;
        within = omega arith;
        longest = λ d q. no_longer N _ _ (end_runs N ls (turned_alike M N _ own).known) c d run q (λ x p.
            let back = follows N M (ls ++ c) x (turned_alike M N _ tip) p in
            let longer = l.longest (c ++ x ∷ []) (EndRun-push M ls c x l.run back.0) in
            grind (arith, cases_lt, positive M m x back.0.known, longer, dm_of-append M c (x ∷ [])));
      }
