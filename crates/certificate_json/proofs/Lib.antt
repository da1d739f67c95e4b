mod BodiesRead
mod BodyReadings
mod CertificateLaws
mod PackagesRead
mod RowsHeld
mod StatesRead
mod WritingBack
mod WrittenAsTheyStand
