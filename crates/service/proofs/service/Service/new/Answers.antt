-- `Service::new` meets its contract: it makes the fresh service, from which Demand 3 holds, nothing is left behind,
-- whoever is under embargo is set aside, no report clashes, and every place of the store is accounted for. Assumes
-- nothing.
use mathlib.Core.Path.{◌≡◌, sym, subst}
use Rattle.service.specs.Fresh.{fresh}
use Rattle.service.specs.Aside.{SetsAside}
use Rattle.service.specs.Demand3.{Consistent}
use Rattle.service.specs.NothingBehind.{LeavesNothing}
use Rattle.service.specs.Plain.{PlainlyConsistent}
use Rattle.service.specs.Reports.{ReportsPass}
use Rattle.service.specs.Store.{StoreHolds}
use Rattle.service.proofs.Plain.{plain_demand3}
use Rattle.service.proofs.Demand3.{demand3}
use Rattle.service.proofs.NothingBehind.{nothing_left}
use Rattle.service.proofs.SetAside.{embargoes}
use Rattle.service.proofs.NeverClash.{rules_kept}
use Rattle.service.proofs.SpaceKept.{space_kept}
use Rattle.service.proofs.service.Service.new.Goals as goal

pub returns : goal.returns
unfolding fresh
returns c =
    let z = c.args.sizes in
    let is : _ ≡ fresh z = rw (c.fresh-entry.ensures, c.none-none.ensures) in
    record {
      value = is;
      consistent = subst Consistent (sym is) (demand3 z);
      plainly_consistent = subst PlainlyConsistent (sym is) (plain_demand3 z);
      leaves_nothing = subst LeavesNothing (sym is) (nothing_left z);
      sets_aside = subst SetsAside (sym is) (embargoes z);
      reports_pass = subst ReportsPass (sym is) (rules_kept z);
      store_holds = subst StoreHolds (sym is) (space_kept z);
    }
