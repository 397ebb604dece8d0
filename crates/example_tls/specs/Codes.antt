-- The codes of the types of content.
use Rattle.std.specs.Prelude.{ℕ}
use Rattle.example_tls.specs.declared.records.ContentType.{ContentType}
use Rattle.example_tls.specs.declared.records.ContentType.TheVariants.{ChangeCipherSpec, Alert, Handshake, ApplicationData}

-- the code of a type of content
abbrev pub content_code : ContentType → ℕ
content_code ChangeCipherSpec = 20
content_code Alert = 21
content_code Handshake = 22
content_code ApplicationData = 23
