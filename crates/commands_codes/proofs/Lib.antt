pub mod Renewing
