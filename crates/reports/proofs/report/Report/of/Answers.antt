use Rattle.std.proofs.Common.{◌≡◌, true, sym}
use Rattle.candidates.specs.Members.{members}
use Rattle.sheets.proofs.Heaviest.{only_one}
use Rattle.reports.proofs.report.Report.of.Goals as goal

pub returns : goal.returns
returns g c =
    let m = g.S.Sheet.meaning c.args.sheet in
    let pairing = c.best_pairing-pairing.result in
    let found = c.search_for-found.result in
    let searched = c.search_for-found.ensures.found in
    let heaviest = c.best_pairing-pairing.ensures.heaviest in
    let same = λ (done : found.finished ≡ true). only_one m (members pairing.set) (members found.pairing.set) pairing.points found.pairing.points heaviest (searched.first done) in
    record {
      candidates = c.size-candidates.ensures;
      heaviest = heaviest;
      numbers = c.of-numbers.ensures.value;
      searched = searched;
      promise = c.search_for-found.ensures.promise;
      same = λ done. ((same done).0, sym (same done).1);
    }
