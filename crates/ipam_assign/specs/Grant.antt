-- An address that was given, as the specification has it.
use Rattle.ipam_model.specs.declared.answer.Scan.{Scan}
use Rattle.ipam_model.specs.declared.outcome.Gift.{Gift}
use Rattle.ipam_model.specs.declared.outcome.Served.{Served}
use Rattle.ipam_model.specs.declared.outcome.Served.TheVariants as served
use Rattle.ipam_model.specs.declared.part.Assigned.{Assigned}
use Rattle.ipam_model.specs.declared.part.Outcome.{Outcome}
use Rattle.ipam_model.specs.declared.part.Outcome.TheVariants.{Went, Stops}
use Rattle.ipam_assign.specs.PlaceShape.{PlaceValue}
use Rattle.ipam_assign.specs.declared.grant.Grant.{Grant}
use Rattle.ipam_assign.specs.declared.grant.Obtained.{Obtained}
use Rattle.ipam_assign.specs.declared.grant.Obtained.TheVariants.{Gave, Refused}

-- an address that was assigned at a place, by these reads
abbrev pub gift_at : Scan → PlaceValue → Assigned → Gift
gift_at scan place done = record {
  given = record {
    address = place.address;
    c = scan.c;
    p = scan.p;
    r = scan.r;
    f = scan.f;
    b = scan.b;
    w = done.moment;
  };
  block = place.cidr;
  stamp = done.stamp;
}

abbrev pub gift_in : Grant → Gift
gift_in grant = gift_at grant.spot.scan grant.spot.place grant.done

abbrev pub served_as : Obtained → Served
served_as (Gave grant spare) = served.Gave (gift_in grant)
served_as (Refused answer) = served.Refused answer

abbrev pub outcome_as : Outcome Obtained → Outcome Served
outcome_as (Went left obtained) = Went left (served_as obtained)
outcome_as (Stops left why) = Stops left why
