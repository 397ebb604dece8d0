-- Where the next value of a text stands.
use Rattle.std.specs.Prelude.{◌+◌, ◌-◌, List, [], ◌∷◌, ◌++◌, length, take, slice_get, unwrap_or}
use Rattle.format_json_events.specs.declared.event_reader.Event.{Event}
use Rattle.format_json_events.specs.declared.event_reader.Event.TheVariants as event
use Rattle.wb_json.specs.declared.path.Step.{Step}
use Rattle.wb_json.specs.declared.path.Step.TheVariants.{Root, Element, Inside, Member}

-- the steps to the arrays and objects that are open, the outermost first, and the step from there
-- to the next value
pub record Place : Type 0 where
  pub outer : List Step
  pub here : Step

-- the place of the value that a text is
abbrev pub at_root : Place
at_root = record { outer = []; here = Root }

-- the step to what comes after a value: in an array to the next element
abbrev pub next_step : Step → Step
next_step (Element index) = Element (index + 1)
next_step other = other

-- the place after a value
abbrev pub passed : Place → Place
passed p = record p { here = next_step p.here }

-- the place in an array or an object that begins
abbrev pub entered : Place → Step → Place
entered p first = record { outer = p.outer ++ p.here ∷ []; here = first }

-- the place after the innermost array or object, which is a value there
abbrev pub closed : Place → Place
closed p = record {
  outer = take (length p.outer - 1) p.outer;
  here = next_step (unwrap_or (slice_get p.outer (length p.outer - 1)) Root);
}

-- the place after an event
abbrev pub moved : Place → Event → Place
moved p event.StartArray = entered p (Element 0)
moved p event.StartObject = entered p Inside
moved p event.EndArray = closed p
moved p event.EndObject = closed p
moved p (event.Key name) = record p { here = Member name }
moved p value = passed p

-- the place after some events
abbrev pub moved_by : Place → List Event → Place
moved_by p [] = p
moved_by p (event ∷ events) = moved_by (moved p event) events
