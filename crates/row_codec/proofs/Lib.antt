pub mod CodecLemmas
pub mod NumberLemmas
pub mod CellLemmas
pub mod BodyLemmas
pub mod RisingLemmas
pub mod FitsLemmas
pub mod DeliveryLemmas
pub mod LoopLemmas
