pub mod TextsAsk
pub mod TextsPromise
pub mod Batch
